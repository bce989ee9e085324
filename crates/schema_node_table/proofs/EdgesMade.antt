-- In the first round, a node that will not be final may have edges to numbers with a form.
use Rattle.std.proofs.Common.{◌≡◌, ℕ, ◌<◌, ◌++◌, List, [], ◌∷◌, length, zero, suc, refl, sym, ◌∙◌, ap, arith, false}
use Rattle.std.specs.Prelude.{Some, None, slice_get, All}
use Rattle.std.proofs.Common.{inr}
use Rattle.theory_definitions.specs.Guarded.{NodeEdge, NodePlan, node_edges}
use Rattle.schema_node_table.specs.NodeTable.{NodeEntry, IsFilled, LeadsToFilled, AreFilled, MayPass, MayLead, MayBeFilled, IsOrdered}
use Rattle.schema_node_table.proofs.NodePlaces.{some_is, stays, length_more, get_end}

pub found : {A : Type 0} (xs : List A) (i : ℕ) → i < length xs → (x : A) × (slice_get xs i ≡ Some x)
found [] i h = absurd (omega arith)
found (x ∷ xs) zero h = (x, refl)
found (x ∷ xs) (suc i) h = found xs i (omega arith)

module _ {K : Type 0} (ns : List (NodeEntry K)) (finished : ℕ) (o : IsOrdered ns finished) where
  -- a node with a form has a round, and no round is earlier than the first
  passes_filled : (j : ℕ) (x : NodeEntry K) → slice_get ns j ≡ Some x → IsFilled ns j → MayPass 0 false x
  passes_filled j x at f = record {
    unfilled = λ none. absurd (
        let same : f.0 ≡ x = some_is f.0 x (sym f.2 ∙ at) in
        let plans : f.0.plan ≡ x.plan = ap (λ (y : NodeEntry K). y.plan) same in
        let is = f.3 in let g : ⊥ = cc in g);
    formed = λ plan is. let l = o.ordered j x plan at is in inr (refl, (l.round, l.begun, omega arith));
  }

  pub may_lead : (e : NodeEdge) → LeadsToFilled ns e → MayLead ns 0 false e
  may_lead e l = let there = found ns e.node l.within in record {
    entry = there.0;
    at = there.1;
    unguarded = λ g. passes_filled e.node there.0 there.1 (l.unguarded g);
  }

  pub may_lead_each : (plan : NodePlan K) → AreFilled ns plan → All (MayLead ns 0 false) (node_edges plan)
  may_lead_each plan h = λ k d l. may_lead _ (h k d l)

-- numbers that have their form still have it after one more node
leads_on : {K : Type 0} (ns : List (NodeEntry K)) (m : NodeEntry K) (e : NodeEdge) → LeadsToFilled ns e → LeadsToFilled (ns ++ m ∷ []) e
leads_on ns m e l = record {
  within = let w = l.within in let more = length_more ns m in omega arith;
  unguarded = λ g. let f = l.unguarded g in (f.0, f.1, stays ns (m ∷ []) e.node f.0 f.2, f.3);
}

pub are_filled_on : {K : Type 0} (ns : List (NodeEntry K)) (m : NodeEntry K) (plan : NodePlan K) → AreFilled ns plan → AreFilled (ns ++ m ∷ []) plan
are_filled_on ns m plan h = λ k d l. leads_on ns m _ (h k d l)

-- a node reserved at the end, in the first round
pub may_fill_end : {K : Type 0} (ns : List (NodeEntry K)) (finished : ℕ) (m : NodeEntry K) (plan : NodePlan K) → m.plan ≡ None → m.round ≡ Some 0 → IsOrdered (ns ++ m ∷ []) finished → AreFilled ns plan → MayBeFilled (ns ++ m ∷ []) (length ns) false plan
may_fill_end ns finished m plan none of o h = (0, (m, get_end ns m, none, of), may_lead_each (ns ++ m ∷ []) finished o plan (are_filled_on ns m plan h))
