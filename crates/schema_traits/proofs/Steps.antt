-- Steps of an iteration over numbers, and the item at an index.
use Rattle.std.proofs.Common.{[], ap, arith, get_or, length, sym, zero, suc, ℕ, List, Some, ◌+◌, ◌-◌, ◌<◌, ◌≤◌, ◌∷◌, ◌≡◌}
use Rattle.serde_json.specs.View.{items_view, view}
use Rattle.serde_json.specs.declared.value.Value.{Value}
use Rattle.theory_definitions.specs.Instance.{item_of}
use Rattle.schema_traits.specs.AskedAtOnce.{numbers_from}

pub more_numbers : (k e : ℕ) → k < e → numbers_from k (e - k) ≡ k ∷ numbers_from (k + 1) (e - (k + 1))
more_numbers k e h =
    let left : e - k ≡ suc (e - (k + 1)) = omega arith in
    ap (numbers_from k) left

pub no_numbers : (k e : ℕ) → e ≤ k → numbers_from k (e - k) ≡ []
no_numbers k e h =
    let left : e - k ≡ 0 = omega arith in
    ap (numbers_from k) left

pub item_there : (k : ℕ) (es : List Value) (e : Value) → k < length es → e ≡ get_or es k e → item_of k (items_view es) ≡ Some (view e)
item_there k [] e h is = absurd (omega arith)
item_there zero (x ∷ es) e h is = ap (λ v. Some (view v)) (sym is)
item_there (suc k) (x ∷ es) e h is = item_there k es e (omega arith) is
