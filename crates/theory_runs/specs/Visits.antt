-- How many guarded visits a run for the verdict counts for a node that leads on only through
-- references. A guarded question counts one visit, and then those of its node, unless its pair is
-- in progress or a remembered verdict answers it.
use Rattle.std.specs.List.{list_any}
use Rattle.std.specs.Prelude.{◌≡◌, ◌==◌, ◌++◌, ◌∷◌, [], ℕ, zero, suc, Bool, true, false, List, Option, None, Some, if◌then◌else◌}
use Rattle.theory_definitions.specs.Instance.{Place}
use Rattle.theory_definitions.specs.Keywords.{for_verdict}
use Rattle.theory_definitions.specs.Guarded.{Children, NodeEdge, NodeForm, NodePart, NodePlan, Nodes, node_always, node_child, node_keyword, node_never, node_reference, node_these}
use Rattle.schema_run_context.specs.Progress.{Context, Pairs, Verdicts, busy_at}
use Rattle.schema_run_context.specs.Verdicts.{is_alone, one_more, verdict_of}
use Rattle.schema_run_steps.specs.Askings.{Asking}

-- The count after n more visits.
abbrev pub more_visits : ℕ → ℕ → ℕ
more_visits zero visits = visits
more_visits (suc n) visits = more_visits n (one_more visits)

-- A keyword has no node as a child.
abbrev pub LeadsNowhere : Children → Type 0
LeadsNowhere es = (i : ℕ) (e : NodeEdge) → node_child es i ≡ Some e → ⊥

-- A part of a plan has no node as a child.
abbrev pub FormLeadsNowhere : {K : Type 0} → NodeForm K → Type 0
FormLeadsNowhere (node_keyword m es) = LeadsNowhere es
FormLeadsNowhere (node_reference e) = ⊥

-- None of these parts has a node as a child.
abbrev pub EachLeadsNowhere : {K : Type 0} → List (NodePart K) → Type 0
EachLeadsNowhere [] = Unit {0}
EachLeadsNowhere (x ∷ xs) = FormLeadsNowhere x.form × EachLeadsNowhere xs

-- The number of visits of parts and plans, given that of each edge.
module _ {K : Type 0} (takes : NodeEdge → ℕ → Type 0) where
  -- A keyword without children makes no visit; a reference makes those of its edge.
  abbrev pub FormTakes : NodeForm K → ℕ → Type 0
  FormTakes (node_keyword m es) n = LeadsNowhere es × (n ≡ 0)
  FormTakes (node_reference e) n = takes e n

  -- The first entry makes its visits, and the others lead nowhere.
  abbrev pub PartsTake : List (NodePart K) → ℕ → Type 0
  PartsTake [] n = n ≡ 0
  PartsTake (x ∷ xs) n = FormTakes x.form n × EachLeadsNowhere xs

  -- The visits of a plan.
  abbrev pub PlanTakes : NodePlan K → ℕ → Type 0
  PlanTakes node_always n = n ≡ 0
  PlanTakes node_never n = n ≡ 0
  PlanTakes (node_these xs) n = PartsTake xs n

-- The visits of an edge. If the edge is not guarded, they are those of its node. If it is guarded
-- and its pair is in progress, or its verdict is remembered, there are none. Otherwise there is
-- one, and then those of the node while its pair is in progress.
abbrev pub TakesAcross : Bool → Bool → Option Bool → (ℕ → Type 0) → (ℕ → Type 0) → ℕ → Type 0
TakesAcross false busy read on entered n = on n
TakesAcross true true read on entered n = n ≡ 0
TakesAcross true false (Some v) on entered n = n ≡ 0
TakesAcross true false None on entered n = (m : ℕ) × (n ≡ suc m) × entered m

-- The visits of nodes at a place, with these remembered verdicts.
module _ {K : Type 0} (nodes : Nodes K) (p : Place) (vs : Verdicts) where
  -- The visits of an edge along a chain of at most n references, with these pairs in progress.
  abbrev pub EdgeTakes : ℕ → Pairs → NodeEdge → ℕ → Type 0
  EdgeTakes zero es e n = ⊥
  EdgeTakes (suc depth) es e n = TakesAcross e.guarded (list_any (λ i. i == e.node) (busy_at p es)) (if is_alone e.node p es then verdict_of e.node p vs else None)
      (PlanTakes (EdgeTakes depth es) (nodes.entries e.node)) (PlanTakes (EdgeTakes depth (es ++ (e.node, p) ∷ [])) (nodes.entries e.node)) n

-- ---- a run for the verdict counts the visits that it makes

module _ {K : Type 0} (nodes : Nodes K) (q : Asking) (c c' : Context) where
  -- After a run for the verdict the count has grown by the visits that were made.
  abbrev Counts : ((NodeEdge → ℕ → Type 0) → ℕ → Type 0) → Type 0
  Counts Takes = q.mode ≡ for_verdict → (depth n : ℕ) → Takes (EdgeTakes nodes q.place c.verdicts depth c.in_progress) n → c'.visits ≡ more_visits n c.visits

  -- The run of an edge counts its visits.
  abbrev pub EdgeCounts : NodeEdge → Type 0
  EdgeCounts e = Counts (λ takes. takes e)

  -- The run of a keyword or a reference counts its visits.
  abbrev pub FormCounts : NodeForm K → Type 0
  FormCounts form = Counts (λ takes. FormTakes takes form)

  -- The run of several entries counts their visits.
  abbrev pub PartsCount : List (NodePart K) → Type 0
  PartsCount xs = Counts (λ takes. PartsTake takes xs)

  -- The run of a plan counts its visits.
  abbrev pub PlanCounts : NodePlan K → Type 0
  PlanCounts plan = Counts (λ takes. PlanTakes takes plan)

  -- The run of a node counts its visits.
  abbrev pub NodeCounts : ℕ → Type 0
  NodeCounts i = PlanCounts (nodes.entries i)
