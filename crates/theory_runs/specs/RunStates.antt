-- The setting of a run, which the run does not change, and what each function of a run returns,
-- depending on the setting and the question.
use Rattle.std.specs.List.{list_any}
use Rattle.std.specs.Prelude.{◌≡◌, ◌<◌, ◌≤◌, ◌==◌, ◌∷◌, [], ℕ, Bool, All, List, None, Some, false, length, true}
use Rattle.serde_json.specs.Data.{Data}
use Rattle.theory_definitions.specs.Instance.{Text}
use Rattle.theory_definitions.specs.Keywords.{Answer, Keywords, Question as ChildQuestion, for_units, for_verdict, truth}
use Rattle.theory_definitions.specs.Matching.{Extends, Matcher, completion_of}
use Rattle.theory_definitions.specs.Reports.{Outcome}
use Rattle.schema_reports.specs.ReportViews.{BorrowsItsPlace}
use Rattle.theory_definitions.specs.Runs.{Run, reply_in}
use Rattle.theory_definitions.specs.Guarded.{Children, NodeEdge, NodeForm, NodePart, Nodes, guarded_node, guarded_within, node_reference, node_these, yes_run}
use Rattle.theory_meaning.specs.Numbered.{Ranked, left, subject_in}
use Rattle.schema_traits.specs.FaultViews.{PassesBorrowed, errors_in, faults_in}
use Rattle.schema_traits.specs.KeywordViews.{answer_of, reply_of}
use Rattle.schema_run_context.specs.Matches.{MeetsEach, Settling, settling}
use Rattle.theory_runs.specs.NodeMeets.{ChildMeets, EdgeMeets, EntryMeets, FormMeets, NodeMeets, PartsMeet}
use Rattle.schema_run_steps.specs.Askings.{Asking, IsAskedOf}
use Rattle.schema_run_steps.specs.ReplyModes.{reply_by}
use Rattle.schema_run_steps.specs.NodeRuns.{ChildReplies, EdgeReplies, FormReplies, NodeReplies, PartsReply, TellsAll}
use Rattle.schema_node_table.specs.NodeTable.{NodeEntry, numbered}
use Rattle.serde_json.specs.View.{view}
use Rattle.schema_run_context.specs.Progress.{Context, NoDeeper, busy_at, guard_words}
use Rattle.theory_runs.specs.RightVerdicts.{AreRight, LaysOut, Layout}
use Rattle.schema_run_context.specs.Verdicts.{MayKeep, one_more, read_verdict, verdict_of}
use Rattle.schema_traits.specs.declared.keyword.Answer as code_answer
use Rattle.schema_traits.specs.declared.keyword.Reply as code
use Rattle.schema_run_steps.specs.declared.question.Engine.{Engine}

-- The setting of a run: the keywords with their texts covered or not, whether a keyword is whole,
-- the numbered nodes and their count, and the matcher.
pub record Setting (K R : Type 0) : Type 0 where
  pub words : Bool → Keywords K R
  pub is_whole : K → Bool
  pub nodes : Nodes K
  pub count : ℕ
  pub matcher : Matcher

-- The setting of a table of nodes, in which each keyword is replaced by its meaning.
abbrev pub setting_over : {K R C : Type 0} → (Bool → Keywords K R) → (K → Bool) → (C → K) → List (NodeEntry C) → Matcher → Setting K R
setting_over words is_whole shape ns matcher = record {
  words = words;
  is_whole = is_whole;
  nodes = numbered shape ns;
  count = length ns;
  matcher = matcher;
}

-- The setting of an engine.
abbrev pub setting : {K R C M : Type 0} → (Bool → Keywords K R) → (K → Bool) → (C → K) → (M → Matcher) → Engine C M → Setting K R
setting words is_whole shape matching e = setting_over words is_whole shape e.nodes.now (matching e.matcher.now)

-- The run leaves these as they were: the instance, the pairs in progress, the assumptions, and the
-- marks of the keyword at work.
pub record Keeps (old new : Context) : Type 0 where
  pub root : new.root ≡ old.root
  pub in_progress : new.in_progress ≡ old.in_progress
  pub assumptions : new.remembered.assumptions ≡ old.remembered.assumptions
  pub marking : new.marking ≡ old.marking

-- The remembered verdicts are right for the subject at each place.
abbrev pub RemembersRightly : {K R : Type 0} → Setting K R → Layout → Context → Type 0
RemembersRightly g layout c = AreRight g.words g.is_whole g.nodes g.count g.matcher c.remembered.assumptions c.remembered layout c.verdicts

-- The layout has the question's subject at its place.
abbrev pub IsLaidOut : Layout → Asking → Type 0
IsLaidOut layout q = LaysOut layout q.place q.subject

-- The condition for asking a number: it belongs to the table, the table is ranked, no pair in
-- progress is deeper, units are not wanted, the subject is at its place in the context's instance,
-- and the remembered verdicts are right for a layout that has the subject at its place.
pub record MayRun {K R : Type 0} (g : Setting K R) (q : Asking) (c : Context) (i : ℕ) : Type 0 where
  pub known : i < g.count
  pub ranked : Ranked g.nodes g.count
  pub above : NoDeeper q.place c.in_progress
  pub wanted : ¬ (q.mode ≡ for_units)
  pub stands : IsAskedOf (view c.root) q
  pub goes_on : (layout : Layout) × IsLaidOut layout q × RemembersRightly g layout c

-- If the verdicts remembered before the run are right, so are those remembered after it.
abbrev pub StaysRight : {K R : Type 0} → Setting K R → Asking → Context → Context → Type 0
StaysRight g q c c' = (layout : Layout) → IsLaidOut layout q → RemembersRightly g layout c → RemembersRightly g layout c'

module _ {K R : Type 0} (g : Setting K R) (q : Asking) (c : Context) where
  -- The outcomes of unfinished matches in this run.
  abbrev pub settled_by : Settling
  settled_by = settling g.matcher c.remembered.assumptions

  -- The nodes in progress at the place.
  abbrev pub busy : List ℕ
  busy = busy_at q.place c.in_progress

  -- ---- the replies

  -- The reply is that of this node.
  abbrev pub NodeSays : ℕ → code.Reply → Type 0
  NodeSays = NodeReplies g.words g.is_whole g.nodes g.count settled_by q.mode q.path q.place busy q.subject

  -- The reply is that of these entries together.
  abbrev pub PartsSay : ℕ → List (NodePart K) → code.Reply → Type 0
  PartsSay = PartsReply g.words g.is_whole g.nodes g.count settled_by q.mode q.path q.place busy q.subject

  -- The reply is that of this keyword or reference.
  abbrev pub FormSays : ℕ → Text → NodeForm K → code.Reply → Type 0
  FormSays = FormReplies g.words g.is_whole g.nodes g.count settled_by q.mode q.path q.place busy q.subject

  -- The reply is that of this child of a keyword.
  abbrev pub ChildSays : ℕ → Children → ChildQuestion → code.Reply → Type 0
  ChildSays = ChildReplies g.words g.is_whole g.nodes g.count settled_by q.mode q.path q.place busy q.subject

  -- The reply is that of this edge.
  abbrev pub EdgeSays : NodeEdge → code.Reply → Type 0
  EdgeSays = EdgeReplies g.words g.is_whole g.nodes g.count settled_by q.mode q.path q.place busy q.subject

  -- ---- what a whole run of a node says and meets

  -- The run in a reading, with questions of a bounded depth.
  abbrev pub whole_run : Bool → Data → ℕ → ℕ → Run
  whole_run texts root n i = guarded_within (yes_run g.nodes) (guarded_node (g.words texts) g.matcher g.nodes (subject_in root) c.remembered.assumptions) n i q.path q.place busy

  -- A fact about this run, in every reading and at every sufficient depth, if no match is assumed
  -- with two outcomes.
  abbrev pub OfWholeRun : ℕ → (Bool → Run → Type 0) → Type 0
  OfWholeRun i fact = (root : Data) (texts : Bool) → IsAskedOf root q → TellsAll texts root g.is_whole g.nodes g.count
      → Extends (completion_of c.remembered.assumptions) c.remembered.assumptions → (n : ℕ) → left g.nodes g.count i q.subject busy < n → fact texts (whole_run texts root n i)

  -- The reply is that of the whole run.
  abbrev pub RunReplies : ℕ → code.Reply → Type 0
  RunReplies i r = OfWholeRun i (λ texts run. reply_of texts r ≡ reply_in q.mode run)

  -- ---- what is remembered afterwards

  module _ (c' : Context) where
    -- The matches of a node are remembered.
    abbrev pub MeetsNode : ℕ → Type 0
    MeetsNode = NodeMeets g.words g.is_whole g.nodes g.count settled_by q.mode q.path q.place busy q.subject c.remembered c'.remembered

    -- The matches of several entries in order are remembered.
    abbrev pub MeetsParts : ℕ → List (NodePart K) → Type 0
    MeetsParts = PartsMeet g.words g.is_whole g.nodes g.count settled_by q.mode q.path q.place busy q.subject c.remembered c'.remembered

    -- The matches of an entry are remembered.
    abbrev pub MeetsEntry : ℕ → NodePart K → Type 0
    MeetsEntry = EntryMeets g.words g.is_whole g.nodes g.count settled_by q.mode q.path q.place busy q.subject c.remembered c'.remembered

    -- The matches of a keyword or a reference are remembered.
    abbrev pub MeetsForm : ℕ → Text → NodeForm K → Type 0
    MeetsForm = FormMeets g.words g.is_whole g.nodes g.count settled_by q.mode q.path q.place busy q.subject c.remembered c'.remembered

    -- The matches of a child of a keyword are remembered.
    abbrev pub MeetsChild : ℕ → Children → ChildQuestion → Type 0
    MeetsChild = ChildMeets g.words g.is_whole g.nodes g.count settled_by q.mode q.path q.place busy q.subject c.remembered c'.remembered

    -- The matches of an edge are remembered.
    abbrev pub MeetsEdge : NodeEdge → Type 0
    MeetsEdge = EdgeMeets g.words g.is_whole g.nodes g.count settled_by q.mode q.path q.place busy q.subject c.remembered c'.remembered

    -- The matches of the whole run are remembered.
    abbrev pub RunMeets : ℕ → Type 0
    RunMeets i = OfWholeRun i (λ texts run. MeetsEach g.matcher c.remembered (run.met q.mode) c'.remembered)

-- In each root value that has the question's subject at its place, the verdicts that are remembered
-- after a run are right.
abbrev pub RunRemembers : {K R : Type 0} → Setting K R → Asking → Context → Type 0
RunRemembers g q c' = (root : Data) → IsAskedOf root q → RemembersRightly g (subject_in root) c'

-- The condition for continuing a run: its verdicts are right for the subject at each place.
abbrev pub GoesOn : {K R : Type 0} → Setting K R → Asking → Context → Type 0
GoesOn g q c = (layout : Layout) × IsLaidOut layout q × RemembersRightly g layout c

-- A context without verdicts and visits, as at the start of a run. Of its rows only those of the
-- pairs in progress are left.
abbrev pub forgotten : Context → Context
forgotten c = record c { verdicts = []; visits = 0; kept = []; words = guard_words c }

-- ---- verdicts that are read, and verdicts that are kept

-- The effect of asking a guarded edge for the verdict while its pair is not in progress. The reply
-- is a verdict. If a remembered verdict can be read, the reply is that verdict, and only the number
-- of nodes that may still be asked changes. Otherwise the visit is counted, and the verdict is kept
-- if it may be.
pub record ReadsOrKeeps (q : Asking) (c c' : Context) (i : ℕ) (r : code.Reply) : Type 0 where
  pub verdict : Bool
  pub told : (texts : Bool) → reply_of texts r ≡ truth verdict
  pub read : (v : Bool) → read_verdict i q.place c ≡ Some v → (v ≡ verdict) × (c' ≡ record c { work = c'.work })
  pub counted : read_verdict i q.place c ≡ None → one_more c.visits ≤ c'.visits
  pub kept : read_verdict i q.place c ≡ None → MayKeep i q.place q.subject c.visits c' → verdict_of i q.place c'.verdicts ≡ Some verdict

module _ (q : Asking) (c c' : Context) where
  -- A guarded edge that is asked for the verdict, and whose pair is not in progress, reads its
  -- verdict or keeps it.
  abbrev pub EdgeRemembers : NodeEdge → code.Reply → Type 0
  EdgeRemembers e r = q.mode ≡ for_verdict → e.guarded ≡ true → list_any (λ i. i == e.node) (busy_at q.place c.in_progress) ≡ false → ReadsOrKeeps q c c' e.node r

  -- A reference does so.
  abbrev pub FormRemembers : {K : Type 0} → NodeForm K → code.Reply → Type 0
  FormRemembers form r = (e : NodeEdge) → form ≡ node_reference e → EdgeRemembers e r

  -- So does the only entry of a node.
  abbrev pub PartsRemember : {K : Type 0} → List (NodePart K) → code.Reply → Type 0
  PartsRemember {K} xs r = (x : NodePart K) → xs ≡ x ∷ [] → FormRemembers x.form r

  -- So does a node whose plan has only one entry.
  abbrev pub NodeRemembers : {K : Type 0} → Nodes K → ℕ → code.Reply → Type 0
  NodeRemembers {K} nodes i r = (xs : List (NodePart K)) → nodes.entries i ≡ node_these xs → PartsRemember xs r

-- A keyword's run has begun, with a fresh answer.
abbrev pub HasBegun : {K R : Type 0} → Setting K (R × Answer) → Asking → K → R → code_answer.Answer → Type 0
HasBegun g q m run a = (texts : Bool) → (g.words texts).begin m q.subject q.mode ≡ (run, answer_of texts a)

-- ---- errors borrow the values at their places, in every root value in which the subject is at its
-- place

-- The errors that a keyword passes on borrow their values from the root value.
abbrev pub PassesItsOwn : Asking → code_answer.Answer → Type 0
PassesItsOwn q a = (root : Data) → IsAskedOf root q → All (PassesBorrowed root) (faults_in a)

-- The errors of a reply borrow the values at their places from the root value.
abbrev pub RunBorrows : Asking → code.Reply → Type 0
RunBorrows q r = (root : Data) → IsAskedOf root q → All (BorrowsItsPlace root) (errors_in r)

-- The reply has the form that belongs to the mode.
abbrev pub RunSpeaks : Asking → code.Reply → Type 0
RunSpeaks q r = (root : Data) → IsAskedOf root q → (o : Outcome) × (reply_of false r ≡ reply_by q.mode o)
