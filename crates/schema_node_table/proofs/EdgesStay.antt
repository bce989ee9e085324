-- An edge that is guarded as its target requires may be made, and still may be after each step of
-- its round.
use Rattle.std.proofs.Common.{◌≡◌, ℕ, ◌≤◌, ◌++◌, Bool, true, false, cond, List, [], ◌∷◌, refl, sym, ◌∙◌, ap, arith, true≢false}
use Rattle.std.specs.Prelude.{Option, Some, None, slice_get, is_some, not, ◌&&◌, ◌⊎◌}
use Rattle.std.proofs.Common.{inl, inr, ⊎_elim}
use Rattle.std.proofs.lemmas.Bool.{eqb-true}
use Rattle.serde_json.specs.declared.value.Value.{Value}
use Rattle.theory_definitions.specs.Guarded.{NodeEdge, NodePlan}
use Rattle.schema_node_table.specs.NodeTable.{NodeEntry, IsOpen, Fills, filled, filled_count, guards_at, is_of_round, is_settled_entry, MayPass, MayLead}
use Rattle.schema_node_table.proofs.NodePlaces.{some_is, same_or_not}
use Rattle.schema_node_table.proofs.NodeSteps.{reserved_stays, filled_there, filled_here}

-- the test for a round, as an equation
of_round : (round : ℕ) (r : Option ℕ) → is_of_round round r ≡ true → r ≡ Some round
of_round round None e = absurd (true≢false (sym e))
of_round round (Some q) e = ap Some (eqb-true q round e)

-- a target allowed for a node that will be final is allowed for one that will not be
pass_unsettled : {K : Type 0} (round : ℕ) (settled : Bool) (n : NodeEntry K) → MayPass round settled n → MayPass round false n
pass_unsettled round settled n may = record {
  unfilled = λ e. (refl, (may.unfilled e).1);
  formed = λ plan e. ⊎_elim (λ s. inl s) (λ u. inr (refl, u.1)) (may.formed plan e);
}

pub lead_unsettled : {K : Type 0} (ns : List (NodeEntry K)) (round : ℕ) (settled : Bool) (e : NodeEdge) → MayLead ns round settled e → MayLead ns round false e
lead_unsettled ns round settled e m = record { entry = m.entry; at = m.at; unguarded = λ g. pass_unsettled round settled m.entry (m.unguarded g) }

module _ {K : Type 0} (round : ℕ) (settled : Bool) (n : NodeEntry K) (bare : guards_at round n ≡ false) (settles : settled ≡ true → is_settled_entry n ≡ true) where
  unsettled : is_settled_entry n ≡ false → settled ≡ false
  unsettled no_settled =
      let go : (s : Bool) → (s ≡ true → is_settled_entry n ≡ true) → s ≡ false = elim [ true ↦ λ f. absurd (true≢false (sym (f refl) ∙ no_settled)) | false ↦ λ f. refl ] in
      go settled settles

  bare_unfilled : n.plan ≡ None → (settled ≡ false) × (n.round ≡ None)
  bare_unfilled none =
      let plain : is_some n.round ≡ false = sym (ap (λ (o : Option (NodePlan K)). cond (is_some o) (not n.settled && not (is_of_round round n.round)) (is_some n.round)) none) ∙ bare in
      let go : (r : Option ℕ) → is_some r ≡ false → r ≡ None = elim [ None ↦ λ f. refl | Some q ↦ λ f. absurd (true≢false f) ] in
      (unsettled (ap (λ (o : Option (NodePlan K)). is_some o && n.settled) none), go n.round plain)

  bare_formed : (plan : NodePlan K) → n.plan ≡ Some plan → (n.settled ≡ true) ⊎ ((settled ≡ false) × ((q : ℕ) × (n.round ≡ Some q) × (round ≤ q)))
  bare_formed plan is =
      let plain : (not n.settled && not (is_of_round round n.round)) ≡ false = sym (ap (λ (o : Option (NodePlan K)). cond (is_some o) (not n.settled && not (is_of_round round n.round)) (is_some n.round)) is) ∙ bare in
      let judged : is_settled_entry n ≡ n.settled = ap (λ (o : Option (NodePlan K)). is_some o && n.settled) is in
      let go : (s b : Bool) → n.settled ≡ s → is_of_round round n.round ≡ b → (not s && not b) ≡ false → (n.settled ≡ true) ⊎ ((settled ≡ false) × ((q : ℕ) × (n.round ≡ Some q) × (round ≤ q))) = elim [
        | true ↦ λ b s of f. inl s
        | false ↦ elim [
          | true ↦ λ s of f. inr (unsettled (judged ∙ s), (round, of_round round n.round of, omega arith))
          | false ↦ λ s of f. absurd (true≢false f)
        ]
      ] in
      go n.settled (is_of_round round n.round) refl refl plain

-- an edge that is guarded as its target requires may be made, from a node that will be final only
-- if the target is
pub guards_lead : {K : Type 0} (ns : List (NodeEntry K)) (round : ℕ) (settled : Bool) (e : NodeEdge) (n : NodeEntry K) → slice_get ns e.node ≡ Some n → (e.guarded ≡ false → guards_at round n ≡ false) → (settled ≡ true → is_settled_entry n ≡ true) → MayLead ns round settled e
guards_lead ns round settled e n at guard settles = record {
  entry = n;
  at = at;
  unguarded = λ g. record { unfilled = bare_unfilled round settled n (guard g) settles; formed = bare_formed round settled n (guard g) settles };
}

-- it still may after another number is reserved
pub lead_reserved : {K : Type 0} (old : List (NodeEntry K)) (n : NodeEntry K) (new : List (NodeEntry K)) (round : ℕ) (settled : Bool) (e : NodeEdge) → new ≡ old ++ n ∷ [] → MayLead old round settled e → MayLead new round settled e
lead_reserved old n new round settled e made m = record { entry = m.entry; at = reserved_stays old n new made e.node m.entry m.at; unguarded = m.unguarded }

-- an edge to a number in progress is guarded
open_guarded : {K : Type 0} (ns : List (NodeEntry K)) (i r round : ℕ) (settled : Bool) (n : NodeEntry K) → IsOpen ns i r → slice_get ns i ≡ Some n → MayPass round settled n → ⊥
open_guarded {K} ns i r round settled n is at may =
    let same : is.0 ≡ n = some_is is.0 n (sym is.1 ∙ at) in
    let none : n.plan ≡ None = sym (ap (λ (x : NodeEntry K). x.plan) same) ∙ is.2 in
    let begun : n.round ≡ Some r = sym (ap (λ (x : NodeEntry K). x.round) same) ∙ is.3 in
    let waits : n.round ≡ None = (may.unfilled none).1 in cc

-- and after a number in progress gets its form
pub lead_filled : {K : Type 0} (old : List (NodeEntry K)) (i r : ℕ) (now : Bool) (annotations : Option Value) (plan : NodePlan K) (new : List (NodeEntry K)) (round : ℕ) (settled : Bool) (e : NodeEdge) → IsOpen old i r → Fills old i now annotations plan new → MayLead old round settled e → MayLead new round settled e
lead_filled old i r now annotations plan new round settled e is fills m = ⊎_elim
    (λ same. record {
      entry = filled fills.0 (filled_count old) now annotations plan;
      at = ap (slice_get new) same ∙ filled_here old i now annotations plan new fills;
      unguarded = λ g. absurd (open_guarded old i r round settled m.entry is (ap (slice_get old) (sym same) ∙ m.at) (m.unguarded g));
    })
    (λ ne. record { entry = m.entry; at = filled_there old i now annotations plan new fills e.node ne ∙ m.at; unguarded = m.unguarded })
    (same_or_not e.node i)
