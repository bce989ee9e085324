-- The unit of a child and its outcome: they have the same verdict, and a run that asks for units
-- replies with the unit.
use Rattle.std.proofs.Common.{◌≡◌, ◌∙◌, ℕ, zero, suc, ◌==◌, Bool, true, false, List, ◌++◌, refl, sym, ap, subst}
use Rattle.std.specs.Prelude.{Option, Some, None}
use Rattle.std.specs.List.{list_any}
use Rattle.serde_json.specs.Data.{Data}
use Rattle.theory_definitions.specs.Instance.{Place, Subject, Text}
use Rattle.theory_definitions.specs.Keywords.{Answers, Below, Keywords, Marked, Mode, Question, for_all, for_first, for_units, for_verdict, unit_of_it}
use Rattle.theory_definitions.specs.Laws.{Agrees, KeepsLaws, answer_in}
use Rattle.theory_definitions.specs.Matching.{Matching}
use Rattle.theory_definitions.specs.Meaning.{place_below}
use Rattle.theory_meaning.specs.Numbered.{subject_in}
use Rattle.theory_definitions.specs.Reports.{Outcome, Unit_, accepted, report_of}
use Rattle.theory_definitions.specs.Runs.{Run, no_run, reply_in}
use Rattle.theory_definitions.specs.Guarded.{Children, NodeEdge, Nodes, across, guarded_within, node_child, progress_below, yes_outcome, yes_run, yes_valued}
use Rattle.theory_definitions.specs.Units.{Valued, no_unit}
use Rattle.theory_meaning.proofs.GuardedSense.{across_valued, guarded_valued, node_valid}
use Rattle.theory_meaning.proofs.NodeRuns.{runs_say_outcomes}
use Rattle.schema_run_context.specs.Matches.{Settling}
use Rattle.theory_runs.specs.NodeMeets.{child_run, deep_run, edge_run, reading}
use Rattle.schema_run_steps.specs.NodeRuns.{Reading, child_says, edge_says, node_says}
use Rattle.theory_runs.specs.UnitStates.{child_unit, deep_valued, edge_unit, reply_with, valued_here}
use Rattle.theory_runs.proofs.NodeMeets.{child_replies}
use Rattle.schema_run_steps.proofs.NodeRuns.{agrees_deep, agrees_edge}

-- ---- replies by mode

pub answer_is : {K R : Type 0} (keywords : Keywords K R) (m : K) (s : Subject) (matches : Matching) (answers : Answers) (units : Question → Unit_) (same : Marked → Marked → Bool) (mode : Mode) (q : Question)
    → reply_with mode (answers q) (units q) ≡ answer_in keywords m s matches answers units same mode q
answer_is keywords m s matches answers units same for_verdict q = refl
answer_is keywords m s matches answers units same for_first q = refl
answer_is keywords m s matches answers units same for_all q = refl
answer_is keywords m s matches answers units same for_units q = refl

-- ---- a unit is valid if and only if the verdict is yes

module _ {K R : Type 0} (words : Bool → Keywords K R) (absorbed : K → List Text) (laws : (texts : Bool) (m : K) → KeepsLaws (words texts) m (absorbed m)) (nodes : Nodes K) (x : Reading) where
  abbrev ValuedWithin : ℕ → ℕ → Text → Place → List ℕ → Valued
  ValuedWithin = guarded_within (yes_valued nodes) (valued_here words nodes x)

  abbrev ValuedAcross : ℕ → Text → Place → List ℕ → NodeEdge → Below → Valued
  ValuedAcross n = across (yes_valued nodes) (valued_here words nodes x) (ValuedWithin n)

  -- The unit is valid if and only if the outcome accepts.
  abbrev IsTold : Valued → Type 0
  IsTold v = (report_of v.units).valid ≡ v.outcome.verdict

  across_told : (n : ℕ) → ((i : ℕ) (path : Text) (p : Place) (busy : List ℕ) → IsTold (ValuedWithin n i path p busy)) → (path : Text) (p : Place) (busy : List ℕ) (e : NodeEdge) (b : Below) → IsTold (ValuedAcross n path p busy e b)
  across_told n h path p busy e b = by e.guarded (list_any (λ i. i == e.node) (progress_below busy b)) (yes_valued nodes e.node (path ++ e.path) (place_below p b)) _ _ refl (h e.node _ _ _) (h e.node _ _ _)
    where
      by : (g t : Bool) (y u v : Valued) → IsTold y → IsTold u → IsTold v → IsTold (elim g [ false ↦ u | true ↦ elim t [ true ↦ y | false ↦ v ] ])
      by false t y u v held h k = h
      by true true y u v held h k = held
      by true false y u v held h k = k

  agrees_at : (n : ℕ) (path : Text) (p : Place) (busy : List ℕ) (e : NodeEdge) (b : Below) → Agrees (across yes_outcome (node_says words nodes x) (guarded_within yes_outcome (node_says words nodes x) n) path p busy e b)
  agrees_at n path p busy e b =
      agrees_edge words nodes (λ texts m s matches a h. (laws texts m).agree s matches a h) x (guarded_within yes_outcome (node_says words nodes x) n) (agrees_deep words nodes (λ texts m s matches a h. (laws texts m).agree s matches a h) x n) path p busy e b

  -- The outcome of an edge with its unit is the edge's outcome.
  edge_says_it : (n : ℕ) (path : Text) (p : Place) (busy : List ℕ) (e : NodeEdge) (b : Below)
      → (ValuedAcross n path p busy e b).outcome ≡ across yes_outcome (node_says words nodes x) (guarded_within yes_outcome (node_says words nodes x) n) path p busy e b
  edge_says_it n path p busy e b = ap (λ (f : NodeEdge → Below → Outcome). f e b)
      (across_valued (words x.texts) x.matcher nodes (subject_in x.root) x.completion n (guarded_valued (words x.texts) x.matcher nodes (subject_in x.root) x.completion n) path p busy)

  deep_told : (n i : ℕ) (path : Text) (p : Place) (busy : List ℕ) → IsTold (ValuedWithin n i path p busy)
  deep_told zero i path p busy = refl
  deep_told (suc n) i path p busy = node_valid (words x.texts) x.matcher nodes (subject_in x.root) absorbed (laws x.texts) x.completion i path p
      (λ e b. (ValuedAcross n path p busy e b).outcome) (λ e b. (ValuedAcross n path p busy e b).units)
      (λ e b. subst Agrees (sym (edge_says_it n path p busy e b)) (agrees_at n path p busy e b)) (across_told n (deep_told n) path p busy)

  pub child_valid : (path : Text) (p : Place) (busy : List ℕ) (es : Children) (q : Question) → (report_of (child_unit words nodes x path p busy es q)).valid ≡ (child_says words nodes x path p busy es q).verdict
  child_valid path p busy es q = by (node_child es q.child)
    where
      by : (o : Option NodeEdge) → (report_of (elim o [ None ↦ no_unit | Some e ↦ edge_unit words nodes x path p busy e q.below ])).valid ≡ (let a : Outcome = elim o [ None ↦ accepted | Some e ↦ edge_says words nodes x path p busy e q.below ] in a.verdict)
      by None = refl
      by (Some e) = across_told x.depth (deep_told x.depth) path p busy e q.below ∙ ap (λ (o : Outcome). o.verdict) (edge_says_it x.depth path p busy e q.below)

-- ---- the units of a run are those of its nodes

module _ {K R : Type 0} (words : Bool → Keywords K R) (nodes : Nodes K) (w : Settling) (texts : Bool) (root : Data) (depth : ℕ) where
  edge_units : (path : Text) (p : Place) (busy : List ℕ) (e : NodeEdge) (b : Below) → (edge_run words nodes w texts root depth path p busy e b).units tt ≡ edge_unit words nodes (reading w texts root depth) path p busy e b
  edge_units path p busy e b = by e.guarded (list_any (λ i. i == e.node) (progress_below busy b)) (yes_run nodes e.node (path ++ e.path) (place_below p b)) _ _ (yes_valued nodes e.node (path ++ e.path) (place_below p b)) _ _ refl (each e.node _ _ _) (each e.node _ _ _)
    where
      each : (i : ℕ) (path : Text) (p : Place) (busy : List ℕ) → (deep_run words nodes w texts root depth i path p busy).units tt ≡ (deep_valued words nodes (reading w texts root depth) i path p busy).units
      each i path p busy = (runs_say_outcomes (words texts) w.matcher nodes (subject_in root) w.assumptions depth i path p busy).1

      by : (g t : Bool) (y u v : Run) (y' u' v' : Valued) → y.units tt ≡ y'.units → u.units tt ≡ u'.units → v.units tt ≡ v'.units
          → ◌≡◌ {A = Unit_} ((elim g as (λ g. Run) [ false ↦ u | true ↦ elim t as (λ t. Run) [ true ↦ y | false ↦ v ] ]).units tt) (elim g as (λ g. Valued) [ false ↦ u' | true ↦ elim t as (λ t. Valued) [ true ↦ y' | false ↦ v' ] ]).units
      by false t y u v y' u' v' f h k = h
      by true true y u v y' u' v' f h k = f
      by true false y u v y' u' v' f h k = k

  child_units : (path : Text) (p : Place) (busy : List ℕ) (es : Children) (q : Question) → (child_run words nodes w texts root depth path p busy es q).units tt ≡ child_unit words nodes (reading w texts root depth) path p busy es q
  child_units path p busy es q = by (node_child es q.child)
    where
      by : (o : Option NodeEdge) → (elim o as (λ o. Run) [ None ↦ no_run | Some e ↦ edge_run words nodes w texts root depth path p busy e q.below ]).units tt ≡ elim o as (λ o. Unit_) [ None ↦ no_unit | Some e ↦ edge_unit words nodes (reading w texts root depth) path p busy e q.below ]
      by None = refl
      by (Some e) = edge_units path p busy e q.below

  -- The reply of a run is the child's outcome, or its unit.
  pub told_is : (mode : Mode) (path : Text) (p : Place) (busy : List ℕ) (es : Children) (q : Question)
      → reply_with mode (child_says words nodes (reading w texts root depth) path p busy es q) (child_unit words nodes (reading w texts root depth) path p busy es q) ≡ reply_in mode (child_run words nodes w texts root depth path p busy es q)
  told_is for_verdict path p busy es q = child_replies words nodes w texts root depth for_verdict (λ e. cc e) path p busy es q
  told_is for_first path p busy es q = child_replies words nodes w texts root depth for_first (λ e. cc e) path p busy es q
  told_is for_all path p busy es q = child_replies words nodes w texts root depth for_all (λ e. cc e) path p busy es q
  told_is for_units path p busy es q = ap unit_of_it (sym (child_units path p busy es q))
