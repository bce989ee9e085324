-- The premises of the functions of a run, over the values of the code: one word for each.
use Rattle.std.specs.Prelude.{Bool, List, Option, map, option_map, ℕ, [], ◌≡◌}
use Rattle.theory_definitions.specs.Instance.{Text}
use Rattle.theory_definitions.specs.Keywords.{for_verdict}
use Rattle.theory_definitions.specs.Laws.{IsPresent, steps_below}
use Rattle.theory_definitions.specs.Matching.{Matcher}
use Rattle.theory_definitions.specs.Pointer.{pointer_to}
use Rattle.schema_reports.specs.InstanceViews.{subject_of}
use Rattle.schema_traits.specs.EdgeViews.{edge_of}
use Rattle.schema_traits.specs.FaultViews.{faults_in}
use Rattle.schema_traits.specs.KeywordViews.{below_of, mode_of}
use Rattle.schema_traits.specs.MatcherViews.{FinishesEach}
use Rattle.schema_traits.specs.declared.keyword.Answer as code_answer
use Rattle.schema_traits.specs.declared.keyword.Below.{Below}
use Rattle.schema_traits.specs.declared.keyword.Validate as keyword
use Rattle.schema_traits.specs.declared.matcher.Matcher as matcher
use Rattle.schema_traits.specs.declared.numbers.Edge.{Edge}
use Rattle.schema_run_context.specs.Progress.{Context, places_in}
use Rattle.schema_node_table.specs.NodeTable.{numbered, shaped_form, shaped_part}
use Rattle.schema_node_table.specs.NodeViews.{entry_of, form_of}
use Rattle.schema_node_table.specs.declared.node.Entry.{Entry}
use Rattle.schema_run_steps.specs.Askings.{asking}
use Rattle.schema_run_steps.specs.Depths.{StandsDeep}
use Rattle.schema_run_steps.specs.EvaluationPlaces.{CarriesItsNumber, steps_to}
use Rattle.schema_run_steps.specs.NodeRuns.{HasChildren, HasForm, HasParts, form_at_work}
use Rattle.schema_run_steps.specs.declared.question.Engine.{Engine}
use Rattle.schema_run_steps.specs.declared.question.NamedKeyword.{NamedKeyword}
use Rattle.schema_run_steps.specs.declared.question.Question.{Question}
use Rattle.schema_traits.specs.Questions.{QuestionsLeft, SaysByQuestions}
use Rattle.theory_runs.specs.Answered.{IsAsked, Wanted, an_edge, setting_by, the_entry, the_keyword}
use Rattle.theory_runs.specs.RunStates.{HasBegun, MayRun}
use Rattle.theory_runs.specs.UnitStates.{MayAsk, MayEvaluate}

-- if the question's place or one above it carries a number, then that is its number
abbrev pub CarriesNumber : Question → Context → Type 0
CarriesNumber q c = CarriesItsNumber (places_in c) q.place.now

-- the question is not for the verdict alone
abbrev pub WantsMore : Question → Type 0
WantsMore q = ¬ (mode_of q.mode ≡ for_verdict)

-- the instance that the question leads to below exists
abbrev pub HasBelow : Question → Below → Type 0
HasBelow q below = IsPresent (subject_of q.instance) (steps_below (below_of below))

-- the question's place has this pointer
abbrev pub PointsThere : Question → Text → Type 0
PointsThere q pointer = pointer ≡ pointer_to (steps_to q.place.now)

-- no match stays unfinished
abbrev pub FinishesAll : {C M : Type 0} → (M → Matcher) → Engine C M → Type 0
FinishesAll matching e = FinishesEach (matching e.matcher.now)

-- about the node with this number
module _ {C K M : Type 0} (shape : C → K) (e : Engine C M) (i : ℕ) where
  -- these entries are parts of its plan
  abbrev pub HasEntries : List (Entry C) → Type 0
  HasEntries xs = HasParts (numbered shape e.nodes.now) i (map (shaped_part shape) (map entry_of xs))

  -- one part of its plan has the form of this entry
  abbrev pub HasEntry : Entry C → Type 0
  HasEntry x = HasForm (numbered shape e.nodes.now) i (shaped_form shape (form_of x.form))

  -- one part of its plan is this keyword with its children
  abbrev pub HasKeyword : NamedKeyword C → Type 0
  HasKeyword w = HasForm (numbered shape e.nodes.now) i (form_at_work shape w)

  -- these edges are edges of the node only
  abbrev pub HasEdges : List (Option Edge) → Type 0
  HasEdges es = HasChildren (numbered shape e.nodes.now) i (map (option_map edge_of) es)

-- ---- a premise says that the setting, the question and the context are fit for a call, and that
-- what is requested exists

-- the premise for a node; with the form of one of its entries; and with a child and the instance
-- for it
pub record NodePremise (May : Type 0) (q : Question) (c : Context) : Type 0 where
  pub may : May
  pub carries : CarriesNumber q c
  pub deep : StandsDeep q

pub record FormPremise (May : Type 0) (q : Question) (c : Context) (Form : Type 0) : Type 0 where
  pub may : May
  pub carries : CarriesNumber q c
  pub deep : StandsDeep q
  pub form : Form

pub record ChildPremise (May : Type 0) (q : Question) (c : Context) (Children : Type 0) (below : Below) : Type 0 where
  pub may : May
  pub carries : CarriesNumber q c
  pub deep : StandsDeep q
  pub children : Children
  pub present : HasBelow q below

-- the same in a mode for errors; also for entries; and for a matcher that finishes every match
pub record NodeErrorsPremise (May : Type 0) (q : Question) (c : Context) : Type 0 where
  pub may : May
  pub carries : CarriesNumber q c
  pub deep : StandsDeep q
  pub more : WantsMore q

pub record PartsErrorsPremise (May : Type 0) (q : Question) (c : Context) (Parts : Type 0) : Type 0 where
  pub may : May
  pub carries : CarriesNumber q c
  pub deep : StandsDeep q
  pub more : WantsMore q
  pub parts : Parts

pub record FormErrorsPremise (May : Type 0) (q : Question) (c : Context) (Form : Type 0) : Type 0 where
  pub may : May
  pub carries : CarriesNumber q c
  pub deep : StandsDeep q
  pub more : WantsMore q
  pub form : Form

pub record ChildErrorsPremise (May : Type 0) (q : Question) (c : Context) (Children : Type 0) (below : Below) : Type 0 where
  pub may : May
  pub carries : CarriesNumber q c
  pub deep : StandsDeep q
  pub more : WantsMore q
  pub children : Children
  pub present : HasBelow q below

pub record FinishedErrorsPremise (May : Type 0) (q : Question) (c : Context) (Finishes : Type 0) : Type 0 where
  pub may : May
  pub carries : CarriesNumber q c
  pub deep : StandsDeep q
  pub more : WantsMore q
  pub finishes : Finishes

-- the same in the mode for units, at the place of a pointer
pub record PartsUnitsPremise (May : Type 0) (q : Question) (c : Context) (pointer : Text) (Parts : Type 0) : Type 0 where
  pub may : May
  pub carries : CarriesNumber q c
  pub deep : StandsDeep q
  pub pointed : PointsThere q pointer
  pub parts : Parts

pub record FormUnitsPremise (May : Type 0) (q : Question) (c : Context) (pointer : Text) (Form : Type 0) : Type 0 where
  pub may : May
  pub carries : CarriesNumber q c
  pub deep : StandsDeep q
  pub pointed : PointsThere q pointer
  pub form : Form

-- the same for a keyword whose run has begun, with no errors of its own and no marks
pub record TurnsPremise (May : Type 0) (q : Question) (c : Context) (Form Begun : Type 0) (a : code_answer.Answer) : Type 0 where
  pub may : May
  pub carries : CarriesNumber q c
  pub deep : StandsDeep q
  pub form : Form
  pub begun : Begun
  pub no_faults : faults_in a ≡ []
  pub no_marks : c.marking ≡ []

module _ {C R K M : Type 0} (k : keyword.Ghosts C R K) (m : matcher.Ghosts M) (e : Engine C M) (q : Question) where
  -- a verdict may be requested; that of an entry, of a keyword, and of the node that an edge leads
  -- to
  abbrev pub VerdictIsAsked : Wanted K → Context → Type 0
  VerdictIsAsked a c = IsAsked (setting_by k m e) q a c

  abbrev pub EntryIsAsked : ℕ → Entry C → Context → Type 0
  EntryIsAsked i x c = IsAsked (setting_by k m e) q (the_entry k.shape i x) c

  abbrev pub KeywordIsAsked : ℕ → NamedKeyword C → Context → Type 0
  KeywordIsAsked i w c = IsAsked (setting_by k m e) q (the_keyword k.shape i w) c

  abbrev pub EdgeIsAsked : Edge → Context → Type 0
  EdgeIsAsked edge c = IsAsked (setting_by k m e) q (an_edge (edge_of edge)) c

  -- a keyword's run has begun, and its answer is fresh
  abbrev pub KeywordHasBegun : NamedKeyword C → R → code_answer.Answer → Type 0
  KeywordHasBegun w run a = HasBegun (setting_by k m e) (asking q) (k.shape w.keyword.now) run a

  module _ (c : Context) (i : ℕ) where
    -- a reply of a node may be requested
    abbrev pub NodeMayReply : Type 0
    NodeMayReply = NodePremise (MayRun (setting_by k m e) (asking q) c i) q c

    -- errors may be requested: of a node, of its entries, of one of them, of a keyword, of its
    -- child, and of a node that is checked for its verdict first
    abbrev pub NodeMayRun : Type 0
    NodeMayRun = NodeErrorsPremise (MayRun (setting_by k m e) (asking q) c i) q c

    abbrev pub EntriesMayRun : List (Entry C) → Type 0
    EntriesMayRun xs = PartsErrorsPremise (MayRun (setting_by k m e) (asking q) c i) q c (HasEntries k.shape e i xs)

    abbrev pub EntryMayRun : Entry C → Type 0
    EntryMayRun x = FormErrorsPremise (MayRun (setting_by k m e) (asking q) c i) q c (HasEntry k.shape e i x)

    abbrev pub KeywordMayRun : NamedKeyword C → Type 0
    KeywordMayRun w = FormErrorsPremise (MayRun (setting_by k m e) (asking q) c i) q c (HasKeyword k.shape e i w)

    abbrev pub ChildMayRun : List (Option Edge) → Below → Type 0
    ChildMayRun es below = ChildErrorsPremise (MayRun (setting_by k m e) (asking q) c i) q c (HasEdges k.shape e i es) below

    abbrev pub NodeMayBeRefused : Type 0
    NodeMayBeRefused = FinishedErrorsPremise (MayRun (setting_by k m e) (asking q) c i) q c (FinishesAll m.matching e)

    -- units may be requested: of a node, of its entries, of one of them, of a keyword, and of its
    -- child
    abbrev pub NodeMayEvaluate : Type 0
    NodeMayEvaluate = NodePremise (MayEvaluate (setting_by k m e) (asking q) c i) q c

    abbrev pub EntriesMayEvaluate : List (Entry C) → Text → Type 0
    EntriesMayEvaluate xs pointer = PartsUnitsPremise (MayEvaluate (setting_by k m e) (asking q) c i) q c pointer (HasEntries k.shape e i xs)

    abbrev pub EntryMayEvaluate : Entry C → Text → Type 0
    EntryMayEvaluate x pointer = FormUnitsPremise (MayEvaluate (setting_by k m e) (asking q) c i) q c pointer (HasEntry k.shape e i x)

    abbrev pub KeywordMayEvaluate : NamedKeyword C → Text → Type 0
    KeywordMayEvaluate w pointer = FormUnitsPremise (MayEvaluate (setting_by k m e) (asking q) c i) q c pointer (HasKeyword k.shape e i w)

    abbrev pub ChildMayEvaluate : List (Option Edge) → Below → Type 0
    ChildMayEvaluate es below = ChildPremise (MayEvaluate (setting_by k m e) (asking q) c i) q c (HasEdges k.shape e i es) below

    -- an answer in any mode may be requested: of a keyword, in its turns, and of its child
    abbrev pub KeywordMayAsk : NamedKeyword C → Type 0
    KeywordMayAsk w = FormPremise (MayAsk (setting_by k m e) (asking q) c i) q c (HasKeyword k.shape e i w)

    abbrev pub TurnsMayAsk : NamedKeyword C → R → code_answer.Answer → Type 0
    TurnsMayAsk w run a = TurnsPremise (MayAsk (setting_by k m e) (asking q) c i) q c (HasKeyword k.shape e i w) (KeywordHasBegun w run a) a

    abbrev pub ChildMayAsk : List (Option Edge) → Below → Type 0
    ChildMayAsk es below = ChildPremise (MayAsk (setting_by k m e) (asking q) c i) q c (HasEdges k.shape e i es) below

-- a keyword's verdict may be requested by questions that decide it, all of them or one, if no match
-- stays unfinished
pub record QuestionsPremise (Asked Finishes : Type 0) (q : Question) (left : QuestionsLeft) (Says : Type 0) : Type 0 where
  pub asked : Asked
  pub finishes : Finishes
  pub there : left.subject ≡ subject_of q.instance
  pub says : Says

abbrev pub QuestionsAreAsked : {C R K M : Type 0} → keyword.Ghosts C R K → matcher.Ghosts M → Engine C M → Question → Context → ℕ → NamedKeyword C → Bool → QuestionsLeft → Type 0
QuestionsAreAsked k m e q c i w all left = QuestionsPremise (KeywordIsAsked k m e q i w c) (FinishesAll m.matching e) q left
    (SaysByQuestions k.words k.is_whole (subject_of q.instance) (k.shape w.keyword.now) all left.left)
