-- How a size is found.
use Rattle.std.proofs.Common.{◌≡◌, ◌==◌, Bool, true, false, cond, leb, ℤ, ℕ, zero, suc, ◌+◌, ◌-◌, ◌*◌, ◌/◌, ◌%◌, ◌^◌, ◌<◌, ◌≤◌, IsTrue, T, not, refl, sym, ap, subst, ◌∙◌, arith, true≢false, to_bits}
use Rattle.std.specs.Float.{Float, nan, inf, fin, binary64, float_is_finite}
use Rattle.std.specs.Float.Ieee
use Rattle.std.proofs.Math.Nat.{pow-succ', div-div-eq-div-mul, mul_left_comm, mul_assoc, mul_right_comm}
use Rattle.std.proofs.lemmas.Nat.{pow-add}
use lib.Ieee.Positive.{den, num}
use lib.Count.{count_trailing_zeros, under}
use lib.Ieee.{down, odd, of_bits, of_fields, up}
use lib.Ieee.Bits.{of_bits-to_bits}
use lib.Ieee.Exact.{HasValue, odd_sign}
use Rattle.json_values.specs.Sizes.{one}

-- the zeros at a number's end are divided out and put back
trailing_shift : (d n : ℕ) → n / 2 ^ count_trailing_zeros d n * 2 ^ count_trailing_zeros d n ≡ n
unfolding count_trailing_zeros
trailing_shift zero n = omega arith
trailing_shift (suc d) n = by (n % 2) refl (trailing_shift d (n / 2))
  where
    by : (r : ℕ) → n % 2 ≡ r → n / 2 / 2 ^ count_trailing_zeros d (n / 2) * 2 ^ count_trailing_zeros d (n / 2) ≡ n / 2
        → n / 2 ^ under r (count_trailing_zeros d (n / 2)) * 2 ^ under r (count_trailing_zeros d (n / 2)) ≡ n
    by zero even rest =
        let t = count_trailing_zeros d (n / 2) in
        let whole : 2 * (n / 2) ≡ n = omega arith in
        ap (λ x. n / x * x) (pow-succ' 2 t)
        ∙ ap (λ x. x * (2 * 2 ^ t)) (sym (div-div-eq-div-mul n 2 (2 ^ t)))
        ∙ mul_left_comm (n / 2 / 2 ^ t) 2 (2 ^ t)
        ∙ ap (λ x. 2 * x) rest
        ∙ whole
    by (suc r) odd rest = omega arith

pub shifted_units : (n power : ℕ) → n / 2 ^ count_trailing_zeros 64 n * 2 ^ (power + count_trailing_zeros 64 n) ≡ n * 2 ^ power
shifted_units n power =
    let t = count_trailing_zeros 64 n in
    ap (λ x. n / 2 ^ t * x) (pow-add 2 power t) ∙ sym (mul_assoc (n / 2 ^ t) (2 ^ power) (2 ^ t)) ∙ mul_right_comm (n / 2 ^ t) (2 ^ power) (2 ^ t)
    ∙ ap (λ x. x * 2 ^ power) (trailing_shift 64 n)

pub no_nan : (x : Float) → IsTrue (float_is_finite x) → T (not (Ieee.is_nan x))
unfolding Ieee.is_nan float_is_finite
no_nan nan h = absurd (true≢false (sym h))
no_nan (inf s) h = tt
no_nan (fin s m e) h = tt

abbrev size_bits : Float → ℕ
size_bits x = to_bits binary64 x % 2 ^ 63

-- a finite float by the fields of its pattern
abbrev units_of_fields : ℕ → ℕ → ℕ
units_of_fields zero t = t * 2 ^ 0
units_of_fields (suc j) t = (2 ^ 52 + t) * 2 ^ j

by_odd : (s : Bool) (q k : ℕ) (r : Bool) (m : ℕ) (e : ℤ) → odd 53 s q k 1074 ≡ fin r m e → m * up e * 2 ^ 1074 ≡ q * 2 ^ k * down e
by_odd s q k r m e same = (subst (λ y. HasValue y s (q * 2 ^ k) (2 ^ 1074)) same (odd_sign 53 s q k 1074)).1

by_test : (top low s : Bool) (q k : ℕ) (r : Bool) (m : ℕ) (e : ℤ) → cond top (cond low (inf s) nan) (odd 53 s q k 1074) ≡ fin r m e
    → m * up e * 2 ^ 1074 ≡ q * 2 ^ k * down e
by_test true true s q k r m e same = cc
by_test true false s q k r m e same = cc
by_test false low s q k r m e same = by_odd s q k r m e same

by_fields : (s : Bool) (x t : ℕ) (r : Bool) (m : ℕ) (e : ℤ) → of_fields binary64 s x t ≡ fin r m e → m * up e * 2 ^ 1074 ≡ units_of_fields x t * down e
unfolding of_fields
by_fields s zero t r m e same = by_odd s t 0 r m e same
by_fields s (suc j) t r m e same = by_test (suc j == 2047) (t == 0) s (2 ^ 52 + t) j r m e same

by_bits : (b : ℕ) (r : Bool) (m : ℕ) (e : ℤ) → of_bits binary64 b ≡ fin r m e
    → m * up e * 2 ^ 1074 ≡ units_of_fields (b % 2 ^ 63 / 2 ^ 52) (b % 2 ^ 52) * down e
unfolding of_bits
by_bits b r m e same = by_fields (leb (2 ^ 63) b) (b % 2 ^ 63 / 2 ^ 52) (b % 2 ^ 52) r m e same

in_units : (x : Float) → T (Ieee.fits binary64 x) → IsTrue (float_is_finite x)
    → num x * one ≡ units_of_fields (size_bits x / 2 ^ 52) (to_bits binary64 x % 2 ^ 52) * den x
unfolding one float_is_finite
in_units nan f h = absurd (true≢false (sym h))
in_units (inf s) f h = absurd (true≢false (sym h))
in_units (fin s m e) f h = by_bits (to_bits binary64 (fin s m e)) s m e (of_bits-to_bits binary64 (fin s m e) f)

-- the size of a small float, and of the others, by the pattern
pub small_size : (x : Float) → T (Ieee.fits binary64 x) → IsTrue (float_is_finite x) → size_bits x < 2 ^ 52 → num x * one ≡ size_bits x * 2 ^ 0 * den x
small_size x f h small =
    let field : size_bits x / 2 ^ 52 ≡ 0 = omega arith in
    let digits : to_bits binary64 x % 2 ^ 52 ≡ size_bits x = omega arith in
    in_units x f h ∙ ap (λ n. units_of_fields n (to_bits binary64 x % 2 ^ 52) * den x) field ∙ ap (λ n. n * 2 ^ 0 * den x) digits

pub normal_size : (x : Float) → T (Ieee.fits binary64 x) → IsTrue (float_is_finite x) → 2 ^ 52 ≤ size_bits x
    → num x * one ≡ (2 ^ 52 + size_bits x % 2 ^ 52) * 2 ^ (size_bits x / 2 ^ 52 - 1) * den x
normal_size x f h large =
    let field : size_bits x / 2 ^ 52 ≡ suc (size_bits x / 2 ^ 52 - 1) = omega arith in
    let digits : to_bits binary64 x % 2 ^ 52 ≡ size_bits x % 2 ^ 52 = omega arith in
    in_units x f h ∙ ap (λ n. units_of_fields n (to_bits binary64 x % 2 ^ 52) * den x) field
    ∙ ap (λ n. (2 ^ 52 + n) * 2 ^ (size_bits x / 2 ^ 52 - 1) * den x) digits
