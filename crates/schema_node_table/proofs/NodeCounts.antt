-- How many nodes have their form after a number is reserved, begun or filled.
use Rattle.std.proofs.Common.{◌≡◌, ℕ, zero, suc, ◌+◌, ◌<◌, ◌≤◌, ◌++◌, Bool, true, false, cond, List, [], ◌∷◌, length, refl, sym, ◌∙◌, ap, arith}
use Rattle.std.specs.Prelude.{Option, Some, None, slice_get, slice_set, is_some}
use Rattle.serde_json.specs.declared.value.Value.{Value}
use Rattle.theory_definitions.specs.Guarded.{NodePlan}
use Rattle.schema_node_table.specs.NodeTable.{NodeEntry, begun_in, filled, filled_count}
use Rattle.schema_node_table.proofs.NodePlaces.{some_is}

-- one more node without a form changes nothing
pub count_more : {K : Type 0} (xs : List (NodeEntry K)) (y : NodeEntry K) → y.plan ≡ None → filled_count (xs ++ y ∷ []) ≡ filled_count xs
count_more [] y e = rw e refl
count_more (x ∷ xs) y e = ap (λ n. cond (is_some x.plan) 1 0 + n) (count_more xs y e)

pub count_bound : {K : Type 0} (xs : List (NodeEntry K)) → filled_count xs ≤ length xs
count_bound [] = omega arith
count_bound (x ∷ xs) =
    let r = count_bound xs in
    let go : (b : Bool) → cond b 1 0 + filled_count xs ≤ suc (length xs) = elim [ true ↦ omega arith | false ↦ omega arith ] in
    go (is_some x.plan)

-- if one is reserved, not all have their form
pub count_reserved : {K : Type 0} (xs : List (NodeEntry K)) (i : ℕ) (n : NodeEntry K) → slice_get xs i ≡ Some n → n.plan ≡ None → filled_count xs < length xs
count_reserved [] i n at none = absurd (let f : ⊥ = cc in f)
count_reserved {K} (x ∷ xs) zero n at none =
    let same : x.plan ≡ None = ap (λ (x : NodeEntry K). x.plan) (some_is x n at) ∙ none in
    let b = count_bound xs in rw same (omega arith)
count_reserved (x ∷ xs) (suc i) n at none =
    let r = count_reserved xs i n at none in
    let go : (b : Bool) → cond b 1 0 + filled_count xs < suc (length xs) = elim [ true ↦ omega arith | false ↦ omega arith ] in
    go (is_some x.plan)

-- filling a number adds one
pub count_filled : {K : Type 0} (xs : List (NodeEntry K)) (i : ℕ) (n : NodeEntry K) (order : ℕ) (settled : Bool) (annotations : Option Value) (plan : NodePlan K) → slice_get xs i ≡ Some n → n.plan ≡ None
    → filled_count (slice_set xs i (filled n order settled annotations plan)) ≡ suc (filled_count xs)
count_filled [] i n order settled annotations plan at none = absurd (let f : ⊥ = cc in f)
count_filled {K} (x ∷ xs) zero n order settled annotations plan at none =
    let same : x.plan ≡ None = ap (λ (x : NodeEntry K). x.plan) (some_is x n at) ∙ none in rw same (omega arith)
count_filled (x ∷ xs) (suc i) n order settled annotations plan at none = let r = count_filled xs i n order settled annotations plan at none in omega arith

-- beginning a number changes nothing
pub count_begun : {K : Type 0} (xs : List (NodeEntry K)) (i : ℕ) (n : NodeEntry K) (round : ℕ) → slice_get xs i ≡ Some n → filled_count (slice_set xs i (begun_in n round)) ≡ filled_count xs
count_begun [] i n round at = absurd (let f : ⊥ = cc in f)
count_begun {K} (x ∷ xs) zero n round at = ap (λ (m : NodeEntry K). cond (is_some m.plan) 1 0 + filled_count xs) (sym (some_is x n at))
count_begun (x ∷ xs) (suc i) n round at = ap (λ k. cond (is_some x.plan) 1 0 + k) (count_begun xs i n round at)
