-- Comparison of numbers without rounding.
use Rattle.std.proofs.Common.{◌≡◌, ℕ, zero, suc, ◌*◌, ◌/◌, ◌%◌, ◌^◌, ◌<◌, ◌≤◌, ℤ, pos, negsuc, unsigned_abs, Bool, true, false, IsTrue, refl, sym, ap, ◌∙◌, arith, ltb, Less, Equal, Greater, nat_cmp, int_cmp, int_lt, true≢false, mul-le-mul_right, div-add-mod', mod-lt, mul-pos, div-lt_iff_lt-mul, div-le_self, inl, inr}
use Rattle.std.specs.Ordering.{nan_last_cmp, ordering_reverse}
use Rattle.std.specs.Float.{Float, nan, inf, fin, binary64, two_to}
use Rattle.std.specs.Float.Ieee
use Rattle.std.proofs.lemmas.Float.{nan_last}
use Rattle.std.proofs.lemmas.Bool.{cases_order}
use Rattle.std.proofs.lemmas.Bool.Decides.{nat_tests}
use lib.Ieee.{up, down}
use lib.Ieee.Exact.{HasValue}
use lib.Ieee.Back.{round_whole}
use lib.Ieee.Fits.{down_pos}
use Rattle.json_values.specs.Numbers.{value_of_integer}

abbrev natural : ℕ → Float
natural n = fin false n (pos 0)

pub top_is : Ieee.of_bits binary64 0x43f0_0000_0000_0000 ≡ two_to 64
unfolding Ieee.of_bits
top_is = refl

-- ---- a natural number against a float

same_value : (x : Float) (n : ℕ) → HasValue x false n 1 → nan_last_cmp x (natural n) ≡ Equal
unfolding Ieee.lt Ieee.is_nan
same_value nan n h = absurd h
same_value (inf t) n h = absurd h
same_value (fin true m e) n h = absurd (true≢false h.0)
same_value (fin false m e) n h = grind (arith, nat_tests, h.1)

-- up to 2 ^ 53 the conversion to a float loses nothing
pub natural_small : (n : ℕ) (x : Float) → n ≤ 2 ^ 53
    → nan_last_cmp (Ieee.of_int binary64 (pos n)) x ≡ nan_last_cmp (natural n) x
unfolding Ieee.of_int
natural_small n x small = nan_last.congr _ _ x (same_value _ n (round_whole binary64 false n small))

-- a float from 2 ^ 64 on is above each, and so is a NaN
pub natural_far : (n : ℕ) (x : Float) → n < 2 ^ 64 → Ieee.lt x (two_to 64) ≡ false → Less ≡ nan_last_cmp (natural n) x
unfolding Ieee.lt Ieee.is_nan
natural_far n nan f h = refl
natural_far n (inf true) f h = absurd (true≢false h)
natural_far n (inf false) f h = refl
natural_far n (fin true m e) f h = grind (arith, nat_tests, down_pos e)
natural_far n (fin false m e) f h =
    let fits : suc n ≤ 2 ^ 64 = omega arith in
    grind (arith, nat_tests, mul-le-mul_right (down e) fits, down_pos e)

-- k against the fraction a / d, by its whole part, where a whole part of k's size has no fraction
-- beside it
by_whole_part : (k a d : ℕ) → 0 < d → (k ≡ a / d → a % d ≡ 0) → (ltb (k * d) a ≡ ltb k (a / d)) × (ltb a (k * d) ≡ ltb (a / d) k)
by_whole_part k a d p whole =
    let parts = div-add-mod' a d in
    let small = mod-lt a p in
    elim (cases_order k (a / d)) [
      | inl same ↦ let none = whole same in let e : k * d ≡ a = ap (λ x. x * d) same ∙ omega arith in grind (arith, nat_tests)
      | inr (inl below) ↦ let e = mul-le-mul_right d below in grind (arith, nat_tests)
      | inr (inr above) ↦ let e = mul-le-mul_right d above in grind (arith, nat_tests)
    ]

-- a float whose whole part is above 2 ^ 53 has no fraction
no_fraction : (s : Bool) (m : ℕ) (e : ℤ) → Ieee.fits binary64 (fin s m e) ≡ true → 2 ^ 53 < m * up e / down e → m * up e % down e ≡ 0
unfolding Ieee.fits
no_fraction s m (pos e) f big = omega arith
no_fraction s zero (negsuc e) f big = absurd (omega (arith, div-le_self (0 * 1) (2 ^ suc e)))
no_fraction s (suc m) (negsuc e) f big =
    let digits : suc m < 2 ^ 53 = grind (arith, nat_tests) in
    absurd (omega (arith, div-le_self (suc m * 1) (2 ^ suc e)))

-- a large number against a float below 2 ^ 64, by the float's whole part
pub natural_large : (n : ℕ) (x : Float) → 2 ^ 53 < n → Ieee.fits binary64 x ≡ true → Ieee.lt x (two_to 64) ≡ true
    → nat_cmp n (Ieee.to_unsigned 64 x) ≡ nan_last_cmp (natural n) x
unfolding Ieee.lt Ieee.is_nan Ieee.to_unsigned
natural_large n nan big f high = absurd (true≢false (sym high))
natural_large n (inf true) big f high = grind (arith, nat_tests)
natural_large n (inf false) big f high = absurd (true≢false (sym high))
natural_large n (fin true m e) big f high =
    let some : 0 < n * down e = mul-pos (omega arith) (down_pos e) in
    grind (arith, nat_tests)
natural_large n (fin false m e) big f high =
    let a = m * up e in
    let below : a < 2 ^ 64 * down e = grind (arith, nat_tests) in
    let whole : a / down e < 2 ^ 64 = (div-lt_iff_lt-mul {x = a} {y = 2 ^ 64} (down_pos e)).1 below in
    let tests = by_whole_part n a (down e) (down_pos e) (λ same. no_fraction false m e f (omega arith)) in
    grind (arith, nat_tests, tests.0, tests.1)

-- ---- integers

not_negative : (n : ℕ) → IsTrue (int_lt (pos n) (pos 0)) → ⊥
not_negative n h = grind (arith, nat_tests)

pub naturals : (m n : ℕ) → nat_cmp m n ≡ nan_last_cmp (natural m) (natural n)
unfolding Ieee.lt Ieee.is_nan
naturals m n = grind (arith, nat_tests)

pub above_negative : (m : ℕ) (z : ℤ) → IsTrue (int_lt z (pos 0)) → Greater ≡ nan_last_cmp (natural m) (value_of_integer z)
unfolding Ieee.lt Ieee.is_nan
above_negative m (pos n) h = absurd (not_negative n h)
above_negative m (negsuc n) h = grind (arith, nat_tests)

pub below_natural : (z : ℤ) (m : ℕ) → IsTrue (int_lt z (pos 0)) → Less ≡ nan_last_cmp (value_of_integer z) (natural m)
unfolding Ieee.lt Ieee.is_nan
below_natural (pos n) m h = absurd (not_negative n h)
below_natural (negsuc n) m h = grind (arith, nat_tests)

pub integers : (y z : ℤ) → int_cmp y z ≡ nan_last_cmp (value_of_integer y) (value_of_integer z)
unfolding Ieee.lt Ieee.is_nan
integers (pos m) (pos n) = grind (arith, nat_tests)
integers (pos m) (negsuc n) = grind (arith, nat_tests)
integers (negsuc m) (pos n) = grind (arith, nat_tests)
integers (negsuc m) (negsuc n) = grind (arith, nat_tests)

-- ---- a negative integer against a float

pub reversed : (x y : Float) → ordering_reverse (nan_last_cmp x y) ≡ nan_last_cmp y x
reversed x y = sym (nan_last.antisymm y x)

pub mirrored : (z : ℤ) (x : Float) → IsTrue (int_lt z (pos 0)) → Ieee.is_nan x ≡ false
    → nan_last_cmp (natural (unsigned_abs z)) (Ieee.neg x) ≡ nan_last_cmp x (value_of_integer z)
unfolding Ieee.lt Ieee.is_nan Ieee.neg
mirrored (pos n) x h finite = absurd (not_negative n h)
mirrored (negsuc n) nan h finite = absurd (true≢false finite)
mirrored (negsuc n) (inf true) h finite = refl
mirrored (negsuc n) (inf false) h finite = refl
mirrored (negsuc n) (fin true m e) h finite = grind (arith, nat_tests, down_pos e)
mirrored (negsuc n) (fin false m e) h finite = grind (arith, nat_tests, down_pos e)
