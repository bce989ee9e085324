-- The effect of filling or beginning a number on the code's table.
use Rattle.std.proofs.Common.{◌≡◌, ℕ, suc, ◌+◌, ◌<◌, Bool, List, [], ◌∷◌, zero, length, map, sym, ◌∙◌, ap, subst, arith}
use Rattle.std.specs.Prelude.{Option, Some, None, slice_get, slice_set}
use Rattle.std.proofs.lemmas.List.{map-set, length-map}
use Rattle.std.proofs.lemmas.Option.{slice_get_within}
use Rattle.serde_json.specs.declared.value.Value.{Value}
use Rattle.schema_node_table.specs.declared.node.Node.{Node}
use Rattle.schema_node_table.specs.declared.node.NodeForm.{NodeForm}
use Rattle.schema_node_table.specs.NodeViews.{node_of, plan_of}
use Rattle.schema_node_table.specs.NodeTable.{NodeEntry, IsOrdered, filled, begun_in, IsReserved, Waits, IsNewRound, MayBeFilled, Fills, Begins, ComesLast}
use Rattle.schema_node_table.proofs.NodePlaces.{some_is, set_here}
use Rattle.schema_node_table.proofs.NodeCounts.{count_reserved}
use Rattle.schema_node_table.proofs.NodeOrders.{ordered_filled, ordered_begun}

pub in_map : {A B : Type 0} (f : A → B) (xs : List A) (i : ℕ) (x : A) → slice_get xs i ≡ Some x → slice_get (map f xs) i ≡ Some (f x)
in_map f [] i x e = absurd (let g : ⊥ = cc in g)
in_map {A} f (y ∷ xs) zero x e = let same : y ≡ x = cc in ap (λ (z : A). Some (f z)) same
in_map f (y ∷ xs) (suc i) x e = in_map f xs i x e

-- a node with a form
abbrev pub with_form : {K : Type 0} → Node K → ℕ → Bool → Option Value → NodeForm K → Node K
with_form place order settled annotations form = record { location = place.location; base = place.base; start = place.start; round = place.round; order = order; settled = settled; annotations = annotations; form = Some form }

-- a node with a round
abbrev pub with_round : {K : Type 0} → Node K → ℕ → Node K
with_round place round = record { location = place.location; base = place.base; start = place.start; round = Some round; order = place.order; settled = place.settled; annotations = place.annotations; form = place.form }

module _ {K : Type 0} (items : List (Node K)) (i finished : ℕ) (place : Node K) (at : slice_get items i ≡ Some place) (o : IsOrdered (map node_of items) finished) where
  there : slice_get (map node_of items) i ≡ Some (node_of place)
  there = in_map node_of items i place at

  module _ (settled : Bool) (annotations : Option Value) (form : NodeForm K) (may : MayBeFilled (map node_of items) i settled (plan_of form)) where
    same : may.1.0 ≡ node_of place
    same = some_is _ _ (sym may.1.1 ∙ there)

    none : (node_of place).plan ≡ None
    none = sym (ap (λ (x : NodeEntry K). x.plan) same) ∙ may.1.2

    of : (node_of place).round ≡ Some may.0
    of = sym (ap (λ (x : NodeEntry K). x.round) same) ∙ may.1.3

    abbrev new : NodeEntry K
    new = filled (node_of place) finished settled annotations (plan_of form)

    view_filled : map node_of (slice_set items i (with_form place finished settled annotations form)) ≡ slice_set (map node_of items) i new
    view_filled = map-set node_of items i (with_form place finished settled annotations form)

    pub fills : Fills (map node_of items) i settled annotations (plan_of form) (map node_of (slice_set items i (with_form place finished settled annotations form)))
    fills = (node_of place, there, view_filled ∙ ap (λ k. slice_set (map node_of items) i (filled (node_of place) k settled annotations (plan_of form))) o.count)

    pub stays_ordered : IsOrdered (map node_of (slice_set items i (with_form place finished settled annotations form))) (finished + 1)
    stays_ordered = let e : suc finished ≡ finished + 1 = omega arith in
        subst (λ (ns : List (NodeEntry K)). IsOrdered ns (finished + 1)) (sym view_filled) (subst (λ k. IsOrdered (slice_set (map node_of items) i new) k) e (ordered_filled (map node_of items) finished i may.0 (node_of place) settled annotations (plan_of form) there none of o may.2))

    new_at : (n : NodeEntry K) → slice_get (map node_of (slice_set items i (with_form place finished settled annotations form))) i ≡ Some n → new ≡ n
    new_at n e = some_is new n (sym (set_here (map node_of items) i (node_of place) new there) ∙ sym (ap (λ (ns : List (NodeEntry K)). slice_get ns i) view_filled) ∙ e)

    -- it comes after all nodes that had their form
    pub comes_last : ComesLast (map node_of items) i (map node_of (slice_set items i (with_form place finished settled annotations form)))
    comes_last j m plan n at' formed here = subst (λ (x : NodeEntry K). m.order < x.order) (new_at n here) (o.ordered j m plan at' formed).before

  module _ (round : ℕ) (waits : Waits (map node_of items) i) (later : IsNewRound (map node_of items) round) where
    view_begun : map node_of (slice_set items i (with_round place round)) ≡ slice_set (map node_of items) i (begun_in (node_of place) round)
    view_begun = map-set node_of items i (with_round place round)

    pub begins : Begins (map node_of items) i round (map node_of (slice_set items i (with_round place round)))
    begins = (node_of place, there, view_begun)

    pub stays_ordered_begun : IsOrdered (map node_of (slice_set items i (with_round place round))) finished
    stays_ordered_begun =
        let same : waits.0 ≡ node_of place = some_is _ _ (sym waits.1 ∙ there) in
        let none : (node_of place).plan ≡ None = sym (ap (λ (x : NodeEntry K). x.plan) same) ∙ waits.2 in
        subst (λ (ns : List (NodeEntry K)). IsOrdered ns finished) (sym view_begun) (ordered_begun (map node_of items) finished i round (node_of place) there none later o)

-- numbers that wait, and numbers that may be filled, are reserved
pub waits_reserved : {K : Type 0} (ns : List (NodeEntry K)) (i : ℕ) → Waits ns i → IsReserved ns i
waits_reserved ns i w = (w.0, w.1, w.2)

pub open_reserved : {K : Type 0} (items : List (Node K)) (i : ℕ) (settled : Bool) (form : NodeForm K) → MayBeFilled (map node_of items) i settled (plan_of form) → IsReserved (map node_of items) i
open_reserved items i settled form may = (may.1.0, may.1.1, may.1.2)

-- so the count of finished nodes is below the number of nodes
pub no_more_than : {K : Type 0} (items : List (Node K)) (i finished : ℕ) → IsReserved (map node_of items) i → IsOrdered (map node_of items) finished → finished < length items
no_more_than items i finished reserved o =
    let b = count_reserved (map node_of items) i reserved.0 reserved.1 reserved.2 in
    let c = o.count in
    let l : length (map node_of items) ≡ length items = length-map items node_of in omega arith

pub within : {K : Type 0} (items : List (Node K)) (i : ℕ) → IsReserved (map node_of items) i → i < length items
within items i reserved =
    let w = slice_get_within (map node_of items) i reserved.0 reserved.1 in
    let l : length (map node_of items) ≡ length items = length-map items node_of in omega arith
