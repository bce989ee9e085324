-- The table stays ordered when a number is reserved, begun, or gets its form.
use Rattle.std.proofs.Common.{◌≡◌, ℕ, suc, ◌<◌, ◌≤◌, ◌++◌, Bool, List, [], ◌∷◌, sym, ◌∙◌, ap, subst, arith}
use Rattle.std.specs.Prelude.{Option, Some, None, slice_get, slice_set, All}
use Rattle.std.proofs.Common.{inl, inr, ⊎_elim}
use Rattle.serde_json.specs.declared.value.Value.{Value}
use Rattle.theory_definitions.specs.Guarded.{NodeEdge, NodePlan, node_edges}
use Rattle.schema_node_table.specs.NodeTable.{NodeEntry, begun_in, filled, IsNewRound, MayPass, MayLead, Leads, EdgeLeads, NodeLeads, IsOrdered}
use Rattle.schema_node_table.proofs.NodePlaces.{some_is, stays, was_or_last, set_here, set_there, set_was, same_or_not, same_or_less}
use Rattle.schema_node_table.proofs.NodeCounts.{count_more, count_filled, count_begun}

map_all : {A : Type 0} {P Q : A → Type 0} (xs : List A) → ((x : A) → P x → Q x) → All P xs → All Q xs
map_all xs f h = λ k d l. f _ (h k d l)

-- a node with a form is not one without
pub is_formed : {K : Type 0} (n m : NodeEntry K) (plan : NodePlan K) → n.plan ≡ Some plan → m.plan ≡ None → n ≡ m → ⊥
is_formed {K} n m plan is none same =
    let e : n.plan ≡ m.plan = ap (λ (x : NodeEntry K). x.plan) same in cc

-- a table replaces another: in the rounds for which P holds, edges that led to the old node at a
-- number lead to the new one
module _ {K : Type 0} (ns ns' : List (NodeEntry K)) (P : ℕ → Type 0) (change : (j : ℕ) (x : NodeEntry K) → slice_get ns j ≡ Some x → (y : NodeEntry K) × (slice_get ns' j ≡ Some y) × ((r : ℕ) (n : NodeEntry K) → P r → Leads r n x → Leads r n y)) where
  edge_kept : (r : ℕ) (n : NodeEntry K) → P r → (e : NodeEdge) → EdgeLeads ns r n e → EdgeLeads ns' r n e
  edge_kept r n p e l =
      let c = change e.node l.entry l.at in
      record { entry = c.0; at = c.1; unguarded = λ g. c.2 r n p (l.unguarded g) }

  node_kept : (finished finished' : ℕ) (n : NodeEntry K) (plan : NodePlan K) → finished ≤ finished' → (l : NodeLeads ns finished n plan) → P l.round → NodeLeads ns' finished' n plan
  node_kept finished finished' n plan le l p = record {
    round = l.round;
    begun = l.begun;
    before = let b = l.before in omega arith;
    leads = map_all (node_edges plan) (edge_kept l.round n p) l.leads;
  }

pub ordered_more : {K : Type 0} (ns : List (NodeEntry K)) (finished : ℕ) (m : NodeEntry K) → m.plan ≡ None → IsOrdered ns finished → IsOrdered (ns ++ m ∷ []) finished
ordered_more ns finished m none o = record {
  ordered = λ i n plan at is. ⊎_elim
      (λ before. node_kept ns (ns ++ m ∷ []) (λ r. Unit {0}) (λ j x at'. (x, stays ns (m ∷ []) j x at', λ r n p l. l)) finished finished n plan (omega arith) (o.ordered i n plan before is) tt)
      (λ last. absurd (is_formed n m plan is none last))
      (was_or_last ns m i n at);
  count = o.count ∙ sym (count_more ns m none);
}

-- a node replaces another in the table
module _ {K : Type 0} (ns : List (NodeEntry K)) (i : ℕ) (x y : NodeEntry K) (P : ℕ → Type 0) (at : slice_get ns i ≡ Some x) (turn : (r : ℕ) (n : NodeEntry K) → P r → Leads r n x → Leads r n y) where
  set_change : (j : ℕ) (z : NodeEntry K) → slice_get ns j ≡ Some z → (z' : NodeEntry K) × (slice_get (slice_set ns i y) j ≡ Some z') × ((r : ℕ) (n : NodeEntry K) → P r → Leads r n z → Leads r n z')
  set_change j z at' = ⊎_elim
      (λ same.
      let is : z ≡ x = some_is z x (sym at' ∙ ap (slice_get ns) same ∙ at) in
      (y, ap (slice_get (slice_set ns i y)) same ∙ set_here ns i x y at, λ r n p l. turn r n p (subst (Leads r n) is l)))
      (λ ne. (z, set_there ns i j y ne ∙ at', λ r n p l. l))
      (same_or_not j i)

module _ {K : Type 0} (ns : List (NodeEntry K)) (finished i round : ℕ) (n : NodeEntry K) (at : slice_get ns i ≡ Some n) (none : n.plan ≡ None) (later : IsNewRound ns round) (o : IsOrdered ns finished) where
  -- an edge to a node that waits may still lead to it after it is begun in a later round
  turn_begun : (r : ℕ) (m : NodeEntry K) → r < round → Leads r m n → Leads r m (begun_in n round)
  turn_begun r m before l = record {
    unfilled = λ e. ((l.unfilled none).0, λ q of. subst (λ k. r < k) (some_is round q of) before);
    formed = λ plan e. absurd (let f : ⊥ = cc in f);
  }

  pub ordered_begun : IsOrdered (slice_set ns i (begun_in n round)) finished
  ordered_begun = record {
    ordered = λ j m plan at' is. ⊎_elim
        (λ was.
        let l = o.ordered j m plan was is in
        node_kept ns (slice_set ns i (begun_in n round)) (λ r. r < round) (set_change ns i n (begun_in n round) (λ r. r < round) at turn_begun) finished finished m plan (omega arith) l (later j m l.round was l.begun))
        (λ e. absurd (is_formed m (begun_in n round) plan is none e))
        (set_was ns i n (begun_in n round) j m at at');
    count = o.count ∙ sym (count_begun ns i n round at);
  }

module _ {K : Type 0} (ns : List (NodeEntry K)) (finished i round : ℕ) (n : NodeEntry K) (settled : Bool) (annotations : Option Value) (plan : NodePlan K) (at : slice_get ns i ≡ Some n) (none : n.plan ≡ None) (of : n.round ≡ Some round) (o : IsOrdered ns finished) where
  abbrev new : NodeEntry K
  new = filled n finished settled annotations plan

  abbrev after : List (NodeEntry K)
  after = slice_set ns i new

  -- an edge to a node in progress leads to it after it gets its form
  turn_filled : (r : ℕ) (m : NodeEntry K) → Unit {0} → Leads r m n → Leads r m new
  turn_filled r m p l = record {
    unfilled = λ e. absurd (let f : ⊥ = cc in f);
    formed = λ q e. let u = l.unfilled none in inr (u.0, (round, of, inr (u.1 round of)));
  }

  -- an edge that may lead somewhere when it is made does lead there
  passes : (j : ℕ) (x : NodeEntry K) → slice_get ns j ≡ Some x → MayPass round settled x → Leads round new x
  passes j x at' may = record {
    unfilled = λ e. let u = may.unfilled e in (u.0, λ q of'. absurd (let w = u.1 in let f : ⊥ = cc in f));
    formed = λ p e.
        let before = (o.ordered j x p at' e).before in
        ⊎_elim
        (λ s. inl (s, before))
        (λ u. inr (u.0, (u.1.0, u.1.1, ⊎_elim (λ same. inl (same, before)) (λ less. inr less) (same_or_less round u.1.0 u.1.2))))
        (may.formed p e);
  }

  new_edge : (e : NodeEdge) → MayLead ns round settled e → EdgeLeads after round new e
  new_edge e m = edge_kept ns after (λ r. Unit {0}) (set_change ns i n new (λ r. Unit {0}) at turn_filled) round new tt e (record { entry = m.entry; at = m.at; unguarded = λ g. passes e.node m.entry m.at (m.unguarded g) })

  new_leads : All (MayLead ns round settled) (node_edges plan) → NodeLeads after (suc finished) new plan
  new_leads may = record { round = round; begun = of; before = omega arith; leads = map_all (node_edges plan) new_edge may }

  is_new : All (MayLead ns round settled) (node_edges plan) → (m : NodeEntry K) (p : NodePlan K) → m.plan ≡ Some p → m ≡ new → NodeLeads after (suc finished) m p
  is_new may m p is e =
      let plans : plan ≡ p = some_is plan p (sym (ap (λ (x : NodeEntry K). x.plan) e) ∙ is) in
      subst (λ (x : NodeEntry K). NodeLeads after (suc finished) x p) (sym e) (subst (λ (q : NodePlan K). NodeLeads after (suc finished) new q) plans (new_leads may))

  pub ordered_filled : All (MayLead ns round settled) (node_edges plan) → IsOrdered after (suc finished)
  ordered_filled may = record {
    ordered = λ j m p at' is. ⊎_elim
        (λ was. node_kept ns after (λ r. Unit {0}) (set_change ns i n new (λ r. Unit {0}) at turn_filled) finished (suc finished) m p (omega arith) (o.ordered j m p was is) tt)
        (λ e. is_new may m p is e)
        (set_was ns i n new j m at at');
    count = ap suc o.count ∙ sym (count_filled ns i n finished settled annotations plan at none);
  }
