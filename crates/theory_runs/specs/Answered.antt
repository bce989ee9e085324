-- What the functions of a run for the verdict are asked, and what they return: one record for each.
use Rattle.std.specs.Prelude.{◌≡◌, ◌≤◌, ℕ, Bool, IfOk, List, Option, Result, map, option_map, true}
use Rattle.theory_definitions.specs.Instance.{Text}
use Rattle.theory_definitions.specs.Guarded.{Children, NodeEdge, NodeForm, NodePart, node_edges}
use Rattle.theory_definitions.specs.Keywords.{Answer, Below, Question as ChildQuestion, for_verdict}
use Rattle.theory_definitions.specs.Laws.{IsPresent, steps_below}
use Rattle.schema_traits.specs.EdgeViews.{edge_of}
use Rattle.schema_traits.specs.KeywordViews.{mode_of}
use Rattle.schema_traits.specs.declared.keyword.Answer as code_answer
use Rattle.schema_traits.specs.declared.keyword.Validate as keyword
use Rattle.schema_traits.specs.declared.matcher.Matcher as matcher
use Rattle.schema_traits.specs.declared.keyword.Reply as code
use Rattle.schema_traits.specs.declared.keyword.Reply.TheVariants as told
use Rattle.schema_traits.specs.declared.numbers.Edge.{Edge}
use Rattle.schema_run_context.specs.Progress.{Context, places_in}
use Rattle.schema_run_context.specs.Works.{Asks, Spends}
use Rattle.schema_node_table.specs.ClosedNumbers.{ReachesNoGuard}
use Rattle.schema_node_table.specs.NodeTable.{shaped_form, shaped_part}
use Rattle.schema_node_table.specs.NodeViews.{entry_of, form_of}
use Rattle.schema_node_table.specs.declared.node.Entry.{Entry}
use Rattle.schema_run_steps.specs.Askings.{Asking, asking}
use Rattle.schema_run_steps.specs.Depths.{StandsDeep}
use Rattle.schema_run_steps.specs.EvaluationPlaces.{CarriesItsNumber}
use Rattle.schema_run_steps.specs.NodeRuns.{HasChildren, HasForm, HasParts, form_at_work}
use Rattle.schema_reports.specs.declared.evaluation.EvaluationNode.{EvaluationNode}
use Rattle.schema_run_steps.specs.declared.evaluation_order.EntryUnits.{EntryUnits}
use Rattle.schema_run_steps.specs.declared.question.Engine.{Engine}
use Rattle.schema_run_steps.specs.declared.question.NamedKeyword.{NamedKeyword}
use Rattle.schema_run_steps.specs.declared.question.Question.{Question}
use Rattle.theory_runs.specs.RunStates.{ChildSays, EdgeRemembers, EdgeSays, FormRemembers, FormSays, Keeps, MayRun, MeetsChild, MeetsEdge, MeetsEntry, MeetsForm, MeetsNode, MeetsParts, NodeRemembers, NodeSays, PartsRemember, PartsSay, Setting, StaysRight, setting}
use Rattle.theory_runs.specs.UnitStates.{ChildGives, EdgeGives, FindsRightly, FormGives, NodeGives, PartsGive}
use Rattle.theory_runs.specs.Visits.{EdgeCounts, FormCounts, LeadsNowhere, NodeCounts, PartsCount}

-- The setting of a run, from the declarations of a keyword type and a matcher.
abbrev pub setting_by : {C R K M : Type 0} → keyword.Ghosts C R K → matcher.Ghosts M → Engine C M → Setting K (R × Answer)
setting_by k m e = setting k.words k.is_whole k.shape m.matching e

-- What is asked: a number (`a_shared` if it reaches no guarded edge); the plan of a number that is
-- already counted; some of its entries; the keyword or reference of an entry, or the whole entry; a
-- child of a keyword; or the target of an edge (`a_guarded` if the edge is guarded).
pub data Wanted (K : Type 0) : Type 0 where
  a_node a_plan a_shared : ℕ → Wanted K
  some_parts : ℕ → List (NodePart K) → Wanted K
  a_form : ℕ → Text → NodeForm K → Wanted K
  an_entry : ℕ → NodePart K → Wanted K
  a_child : ℕ → Children → ChildQuestion → Wanted K
  an_edge a_guarded : NodeEdge → Wanted K

-- The number that is asked.
abbrev pub number_in : {K : Type 0} → Wanted K → ℕ
number_in (a_node i) = i
number_in (a_plan i) = i
number_in (a_shared i) = i
number_in (some_parts i xs) = i
number_in (a_form i name form) = i
number_in (an_entry i x) = i
number_in (a_child i es k) = i
number_in (an_edge e) = e.node
number_in (a_guarded e) = e.node

module _ {K R : Type 0} (g : Setting K R) (q : Asking) where
  -- The entry or child belongs to the table, the place of a child exists in the subject, and the
  -- conditions on guarded edges hold.
  abbrev pub StandsIn : Wanted K → Type 0
  StandsIn (a_node i) = Unit {0}
  StandsIn (a_plan i) = Unit {0}
  StandsIn (a_shared i) = ReachesNoGuard (λ j. node_edges (g.nodes.entries j)) i
  StandsIn (some_parts i xs) = HasParts g.nodes i xs
  StandsIn (a_form i name form) = HasForm g.nodes i form
  StandsIn (an_entry i x) = HasForm g.nodes i x.form
  StandsIn (a_child i es k) = HasChildren g.nodes i es × IsPresent q.subject (steps_below k.below)
  StandsIn (an_edge e) = Unit {0}
  StandsIn (a_guarded e) = e.guarded ≡ true

  module _ (c c' : Context) where
    -- The visits that the run makes are counted.
    abbrev pub counts_of : Wanted K → Type 0
    counts_of (a_node i) = NodeCounts g.nodes q c c' i
    counts_of (a_plan i) = NodeCounts g.nodes q c c' i
    counts_of (a_shared i) = NodeCounts g.nodes q c c' i
    counts_of (some_parts i xs) = PartsCount g.nodes q c c' xs
    counts_of (a_form i name form) = FormCounts g.nodes q c c' form
    counts_of (an_entry i x) = FormCounts g.nodes q c c' x.form
    counts_of (a_child i es k) = LeadsNowhere es → c'.visits ≡ c.visits
    counts_of (an_edge e) = EdgeCounts g.nodes q c c' e
    counts_of (a_guarded e) = EdgeCounts g.nodes q c c' e

    -- The verdict is the right one for what is asked.
    abbrev pub says_of : Wanted K → Bool → Type 0
    says_of (a_node i) b = NodeSays g q c i (told.Truth b)
    says_of (a_plan i) b = NodeSays g q c i (told.Truth b)
    says_of (a_shared i) b = NodeSays g q c i (told.Truth b)
    says_of (some_parts i xs) b = PartsSay g q c i xs (told.Truth b)
    says_of (a_form i name form) b = FormSays g q c i name form (told.Truth b)
    says_of (an_entry i x) b = FormSays g q c i x.name x.form (told.Truth b)
    says_of (a_child i es k) b = ChildSays g q c i es k (told.Truth b)
    says_of (an_edge e) b = EdgeSays g q c e (told.Truth b)
    says_of (a_guarded e) b = EdgeSays g q c e (told.Truth b)

    -- The matches that the run meets are remembered.
    abbrev pub meets_of : Wanted K → Type 0
    meets_of (a_node i) = MeetsNode g q c c' i
    meets_of (a_plan i) = MeetsNode g q c c' i
    meets_of (a_shared i) = MeetsNode g q c c' i
    meets_of (some_parts i xs) = MeetsParts g q c c' i xs
    meets_of (a_form i name form) = MeetsForm g q c c' i name form
    meets_of (an_entry i x) = MeetsEntry g q c c' i x
    meets_of (a_child i es k) = MeetsChild g q c c' i es k
    meets_of (an_edge e) = MeetsEdge g q c c' e
    meets_of (a_guarded e) = MeetsEdge g q c c' e

    -- The verdicts that the run computes are remembered.
    abbrev pub remembers_of : Wanted K → Bool → Type 0
    remembers_of (a_node i) b = NodeRemembers q c c' g.nodes i (told.Truth b)
    remembers_of (a_plan i) b = NodeRemembers q c c' g.nodes i (told.Truth b)
    remembers_of (a_shared i) b = Unit {0}
    remembers_of (some_parts i xs) b = PartsRemember q c c' xs (told.Truth b)
    remembers_of (a_form i name form) b = FormRemembers q c c' form (told.Truth b)
    remembers_of (an_entry i x) b = FormRemembers q c c' x.form (told.Truth b)
    remembers_of (a_child i es k) b = Unit {0}
    remembers_of (an_edge e) b = EdgeRemembers q c c' e (told.Truth b)
    remembers_of (a_guarded e) b = EdgeRemembers q c c' e (told.Truth b)

    -- After a number is asked, fewer nodes may still be asked if their count is limited. After
    -- anything else, no more may be asked than before.
    abbrev pub works_of : Wanted K → Type 0
    works_of (a_node i) = Asks c.work c'.work
    works_of _ = Spends c.work c'.work

-- The condition under which something may be asked for its verdict.
pub record IsAsked {K R : Type 0} (g : Setting K R) (q : Question) (a : Wanted K) (c : Context) : Type 0 where
  pub may : MayRun g (asking q) c (number_in a)
  pub carries : CarriesItsNumber (places_in c) q.place.now
  pub deep : StandsDeep q
  pub verdict : mode_of q.mode ≡ for_verdict
  pub stands : StandsIn g (asking q) a

-- What holds after a successful result: what stays the same, the visits, what the result says, the
-- matches that were met, the verdicts that are remembered, and how many nodes may still be asked.
pub record Answered {K R T E : Type 0} (g : Setting K R) (q : Asking) (c c' : Context) (result : Result T E) (Counts : Type 0) (Says : T → Type 0) (Meets : Type 0) (Remembers : T → Type 0) (Works : Type 0) : Type 0 where
  pub keeps : IfOk result (λ _. Keeps c c')
  pub counts : IfOk result (λ _. c.visits ≤ c'.visits)
  pub visits : IfOk result (λ _. Counts)
  pub says : IfOk result Says
  pub meets : IfOk result (λ _. Meets)
  pub stays : IfOk result (λ _. StaysRight g q c c')
  pub remembers : IfOk result Remembers
  pub works : IfOk result (λ _. Works)

-- The question is answered.
abbrev pub Answers : {K R E : Type 0} → Setting K R → Question → Wanted K → Context → Context → Result Bool E → Type 0
Answers g q a c c' result = Answered g (asking q) c c' result (counts_of g (asking q) c c' a) (says_of g (asking q) c c' a) (meets_of g (asking q) c c' a) (remembers_of g (asking q) c c' a) (works_of g (asking q) c c' a)

-- What holds after the turns of a keyword, which leave marks: the keyword's answer is found.
pub record Turned {K R T E : Type 0} (g : Setting K (R × Answer)) (q : Asking) (c c' : Context) (result : Result T E) (i : ℕ) (name : Text) (form : NodeForm K) (es : Children) (m : K) (answer : code_answer.Answer) : Type 0 where
  pub root : IfOk result (λ _. c'.root ≡ c.root)
  pub kept : IfOk result (λ _. c'.in_progress ≡ c.in_progress)
  pub assumes : IfOk result (λ _. c'.remembered.assumptions ≡ c.remembered.assumptions)
  pub counts : IfOk result (λ _. c.visits ≤ c'.visits)
  pub quiet : IfOk result (λ _. LeadsNowhere es → c'.visits ≡ c.visits)
  pub right : IfOk result (λ _. FindsRightly g q c i es m answer)
  pub meets : IfOk result (λ _. MeetsForm g q c c' i name form)
  pub stays : IfOk result (λ _. StaysRight g q c c')
  pub works : IfOk result (λ _. Spends c.work c'.work)

-- The turns of a keyword, from the values of the program.
abbrev pub Turns : {C R K T E : Type 0} → (C → K) → Setting K (R × Answer) → Question → ℕ → NamedKeyword C → Context → Context → Result T E → code_answer.Answer → Type 0
Turns shape g q i k c c' result answer = Turned g (asking q) c c' result i k.name.now (form_at_work shape k) (map (option_map edge_of) k.children.now) (shape k.keyword.now) answer

-- ---- runs for errors or units

-- What holds after a successful reply.
pub record Replied {K R T E : Type 0} (g : Setting K R) (q : Asking) (c c' : Context) (result : Result T E) (Says : T → Type 0) (Meets Works : Type 0) : Type 0 where
  pub keeps : IfOk result (λ _. Keeps c c')
  pub counts : IfOk result (λ _. c.visits ≤ c'.visits)
  pub says : IfOk result Says
  pub meets : IfOk result (λ _. Meets)
  pub stays : IfOk result (λ _. StaysRight g q c c')
  pub works : IfOk result (λ _. Works)

-- The same, and a child that leads nowhere makes no visit.
pub record RepliedQuietly {K R T E : Type 0} (g : Setting K R) (q : Asking) (c c' : Context) (result : Result T E) (es : Children) (Says : T → Type 0) (Meets : Type 0) : Type 0 where
  pub keeps : IfOk result (λ _. Keeps c c')
  pub counts : IfOk result (λ _. c.visits ≤ c'.visits)
  pub quiet : IfOk result (λ _. LeadsNowhere es → c'.visits ≡ c.visits)
  pub says : IfOk result Says
  pub meets : IfOk result (λ _. Meets)
  pub stays : IfOk result (λ _. StaysRight g q c c')
  pub works : IfOk result (λ _. Spends c.work c'.work)

module _ {K R E : Type 0} (g : Setting K R) (q : Question) where
  -- The reply of a number.
  abbrev pub NodeReplied : ℕ → Context → Context → Result code.Reply E → Type 0
  NodeReplied i c c' result = Replied g (asking q) c c' result (NodeSays g (asking q) c i) (MeetsNode g (asking q) c c' i) (Asks c.work c'.work)

  -- The reply of a number's plan, after the number is counted.
  abbrev pub PlanReplied : ℕ → Context → Context → Result code.Reply E → Type 0
  PlanReplied i c c' result = Replied g (asking q) c c' result (NodeSays g (asking q) c i) (MeetsNode g (asking q) c c' i) (Spends c.work c'.work)

  -- The reply of several entries together.
  abbrev pub PartsReplied : ℕ → List (NodePart K) → Context → Context → Result code.Reply E → Type 0
  PartsReplied i xs c c' result = Replied g (asking q) c c' result (PartsSay g (asking q) c i xs) (MeetsParts g (asking q) c c' i xs) (Spends c.work c'.work)

  -- The reply of an entry.
  abbrev pub EntryReplied : ℕ → NodePart K → Context → Context → Result code.Reply E → Type 0
  EntryReplied i x c c' result = Replied g (asking q) c c' result (FormSays g (asking q) c i x.name x.form) (MeetsEntry g (asking q) c c' i x) (Spends c.work c'.work)

  -- The reply of a keyword or a reference.
  abbrev pub FormReplied : ℕ → Text → NodeForm K → Context → Context → Result code.Reply E → Type 0
  FormReplied i name form c c' result = Replied g (asking q) c c' result (FormSays g (asking q) c i name form) (MeetsForm g (asking q) c c' i name form) (Spends c.work c'.work)

  -- The reply of a child of a keyword.
  abbrev pub ChildReplied : ℕ → Children → ChildQuestion → Context → Context → Result code.Reply E → Type 0
  ChildReplied i es k c c' result = RepliedQuietly g (asking q) c c' result es (ChildSays g (asking q) c i es k) (MeetsChild g (asking q) c c' i es k)

  -- The reply of an edge.
  abbrev pub EdgeReplied : NodeEdge → Context → Context → Result code.Reply E → Type 0
  EdgeReplied e c c' result = Replied g (asking q) c c' result (EdgeSays g (asking q) c e) (MeetsEdge g (asking q) c c' e) (Spends c.work c'.work)

  -- The unit of a number.
  abbrev pub NodeGiven : ℕ → Context → Context → Result EvaluationNode E → Type 0
  NodeGiven i c c' result = Replied g (asking q) c c' result (NodeGives g (asking q) c i) (MeetsNode g (asking q) c c' i) (Asks c.work c'.work)

  -- The unit of a number's plan, after the number is counted.
  abbrev pub PlanGiven : ℕ → Context → Context → Result EvaluationNode E → Type 0
  PlanGiven i c c' result = Replied g (asking q) c c' result (NodeGives g (asking q) c i) (MeetsNode g (asking q) c c' i) (Spends c.work c'.work)

  -- The units of several entries.
  abbrev pub PartsGiven : ℕ → List (NodePart K) → Context → Context → Result (List EvaluationNode) E → Type 0
  PartsGiven i xs c c' result = Replied g (asking q) c c' result (PartsGive g (asking q) c i xs) (MeetsParts g (asking q) c c' i xs) (Spends c.work c'.work)

  -- The units of a keyword or a reference.
  abbrev pub FormGiven : ℕ → Text → NodeForm K → Context → Context → Result EntryUnits E → Type 0
  FormGiven i name form c c' result = Replied g (asking q) c c' result (FormGives g (asking q) c i name form) (MeetsForm g (asking q) c c' i name form) (Spends c.work c'.work)

  -- The unit of a child of a keyword.
  abbrev pub ChildGiven : ℕ → Children → ChildQuestion → Context → Context → Result EvaluationNode E → Type 0
  ChildGiven i es k c c' result = RepliedQuietly g (asking q) c c' result es (ChildGives g (asking q) c i es k) (MeetsChild g (asking q) c c' i es k)

  -- The unit of an edge.
  abbrev pub EdgeGiven : NodeEdge → Context → Context → Result EvaluationNode E → Type 0
  EdgeGiven e c c' result = Replied g (asking q) c c' result (EdgeGives g (asking q) c e) (MeetsEdge g (asking q) c c' e) (Spends c.work c'.work)

-- ---- what is asked, from the values of the program

-- Some entries of a number.
abbrev pub the_entries : {C K : Type 0} → (C → K) → ℕ → List (Entry C) → Wanted K
the_entries shape i es = some_parts i (map (shaped_part shape) (map entry_of es))

-- The keyword or the reference of an entry.
abbrev pub the_entry : {C K : Type 0} → (C → K) → ℕ → Entry C → Wanted K
the_entry shape i e = a_form i e.name (shaped_form shape (form_of e.form))

-- A keyword at work.
abbrev pub the_keyword : {C K : Type 0} → (C → K) → ℕ → NamedKeyword C → Wanted K
the_keyword shape i k = a_form i k.name.now (form_at_work shape k)

-- A question to a child of a keyword.
abbrev pub the_question : {K : Type 0} → ℕ → List (Option Edge) → ChildQuestion → Wanted K
the_question i es k = a_child i (map (option_map edge_of) es) k

-- A question to the child with this number, at the keyword's place or below it.
abbrev pub the_child : {K : Type 0} → ℕ → List (Option Edge) → ℕ → Below → Wanted K
the_child i es n below = the_question i es (record { child = n; below = below })
