-- Sorted items are distinct if no two neighbours are equal.
use Rattle.std.proofs.Common.{◌≡◌, ◌∙◌, ◌+◌, ◌-◌, ◌<◌, ◌≤◌, Bool, IsPermutation, IsSorted, List, Ordering, Less, Equal, Greater, false, ℕ, ap, ap₂, arith, get_or, is_eq, is_lt, length, sym}
use Rattle.std.specs.Cmp.{IsTotalOrder}
use Rattle.std.specs.List.{IsDistinct}
use Rattle.std.specs.Ordering.{eq_by_cmp, ordering_reverse}
use Rattle.std.proofs.lemmas.Cmp.{eq_by_cmp_equiv}
use Rattle.std.proofs.lemmas.List.{get_or_default}
use Rattle.std.proofs.lemmas.List.Sorted.{IsPermutation-sym}
use Rattle.std.proofs.lemmas.Map.Keys.{IsDistinct-IsPermutation, IsDistinct-from_apart, Less-from_sorted, apart_from_distinct, sorted_from_all_adjacent}

only_less : (o p : Ordering) → o ≡ ordering_reverse p → is_lt p ≡ false → is_eq o ≡ false → o ≡ Less
only_less o Less e p q = cc
only_less o Equal e p q = let tie = ap is_eq (sym e) ∙ q in cc
only_less o Greater e p q = e

module _ {K : Type 0} {R : K → K → Ordering} (o : IsTotalOrder R) {E : K → K → Bool} (ties : (x y : K) → E x y ≡ eq_by_cmp R x y)
    (old new : List K) (moved : IsPermutation old new) where
  flips : (x y : K) → E x y ≡ E y x
  flips x y = ties x y ∙ (eq_by_cmp_equiv o).symm x y ∙ sym (ties y x)

  -- no two neighbours are equal, so no two items are
  pub distinct_from_neighbours : IsSorted R new → ((k : ℕ) (d : K) → k + 1 < length new → E (get_or new k d) (get_or new (k + 1) d) ≡ false) → IsDistinct E old
  distinct_from_neighbours sorted differ =
      let rises : (d : K) (k : ℕ) → k + 1 < length new → R (get_or new k d) (get_or new (k + 1) d) ≡ Less =
      λ d k h. let x = get_or new k d in let y = get_or new (k + 1) d in
      only_less (R x y) (R y x) (o.antisymm x y) (sorted k d (omega arith) h) (sym (ties x y) ∙ differ k d h) in
      IsDistinct-IsPermutation E flips new old (IsPermutation-sym old new moved)
      (IsDistinct-from_apart E new (λ i j d less within. ties (get_or new i d) (get_or new j d)
      ∙ ap is_eq (Less-from_sorted R new i j d (sorted_from_all_adjacent o new d (rises d)) less within)))

  -- of distinct items no two neighbours are equal
  pub equal_neighbours : IsDistinct E old → (i : ℕ) (x y : K) → 1 ≤ i → i < length new → x ≡ get_or new (i - 1) x → y ≡ get_or new i y → E x y ≡ false
  equal_neighbours h i x y later within p q =
      ap₂ E p (q ∙ get_or_default new i y x within)
      ∙ apart_from_distinct E new (i - 1) i x (IsDistinct-IsPermutation E flips old new moved h) (omega arith) within
