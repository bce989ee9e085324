-- The effect of a step on the other numbers of the table, on its length, and on the count of nodes
-- with a form.
use Rattle.std.proofs.Common.{◌≡◌, ℕ, suc, ◌++◌, Bool, List, [], ◌∷◌, length, sym, ◌∙◌, ap}
use Rattle.std.specs.Prelude.{Option, Some, None, slice_get}
use Rattle.serde_json.specs.declared.value.Value.{Value}
use Rattle.theory_definitions.specs.Guarded.{NodePlan}
use Rattle.schema_node_table.specs.NodeTable.{NodeEntry, IsReserved, Fills, Begins, begun_in, filled, filled_count}
use Rattle.schema_node_table.proofs.NodePlaces.{some_is, stays, get_end, length_more, set_here, set_there, set_length}
use Rattle.schema_node_table.proofs.NodeCounts.{count_more, count_filled, count_begun}

-- a number is reserved, in progress or waiting
module _ {K : Type 0} (old : List (NodeEntry K)) (n : NodeEntry K) (new : List (NodeEntry K)) (made : new ≡ old ++ n ∷ []) where
  pub reserved_stays : (j : ℕ) (m : NodeEntry K) → slice_get old j ≡ Some m → slice_get new j ≡ Some m
  reserved_stays j m at = ap (λ (ns : List (NodeEntry K)). slice_get ns j) made ∙ stays old (n ∷ []) j m at

  pub reserved_here : slice_get new (length old) ≡ Some n
  reserved_here = ap (λ (ns : List (NodeEntry K)). slice_get ns (length old)) made ∙ get_end old n

  pub reserved_length : length new ≡ suc (length old)
  reserved_length = ap length made ∙ length_more old n

  pub reserved_count : n.plan ≡ None → filled_count new ≡ filled_count old
  reserved_count none = ap filled_count made ∙ count_more old n none

-- a number gets its form
module _ {K : Type 0} (old : List (NodeEntry K)) (i : ℕ) (settled : Bool) (annotations : Option Value) (plan : NodePlan K) (new : List (NodeEntry K)) (fills : Fills old i settled annotations plan new) where
  pub filled_there : (j : ℕ) → (j ≡ i → ⊥) → slice_get new j ≡ slice_get old j
  filled_there j ne = ap (λ (ns : List (NodeEntry K)). slice_get ns j) fills.2 ∙ set_there old i j _ ne

  pub filled_here : slice_get new i ≡ Some (filled fills.0 (filled_count old) settled annotations plan)
  filled_here = ap (λ (ns : List (NodeEntry K)). slice_get ns i) fills.2 ∙ set_here old i fills.0 _ fills.1

  pub filled_length : length new ≡ length old
  filled_length = ap length fills.2 ∙ set_length old i _

  pub filled_one_more : IsReserved old i → filled_count new ≡ suc (filled_count old)
  filled_one_more r =
      let same : r.0 ≡ fills.0 = some_is r.0 fills.0 (sym r.1 ∙ fills.1) in
      let none : fills.0.plan ≡ None = sym (ap (λ (x : NodeEntry K). x.plan) same) ∙ r.2 in
      ap filled_count fills.2 ∙ count_filled old i fills.0 (filled_count old) settled annotations plan fills.1 none

-- a number is begun
module _ {K : Type 0} (old : List (NodeEntry K)) (i round : ℕ) (new : List (NodeEntry K)) (begins : Begins old i round new) where
  pub begun_there : (j : ℕ) → (j ≡ i → ⊥) → slice_get new j ≡ slice_get old j
  begun_there j ne = ap (λ (ns : List (NodeEntry K)). slice_get ns j) begins.2 ∙ set_there old i j _ ne

  pub begun_here : slice_get new i ≡ Some (begun_in begins.0 round)
  begun_here = ap (λ (ns : List (NodeEntry K)). slice_get ns i) begins.2 ∙ set_here old i begins.0 _ begins.1

  pub begun_length : length new ≡ length old
  begun_length = ap length begins.2 ∙ set_length old i _

  pub begun_count : filled_count new ≡ filled_count old
  begun_count = ap filled_count begins.2 ∙ count_begun old i begins.0 round begins.1
