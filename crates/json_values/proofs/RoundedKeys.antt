-- The keys of numbers: a number has the same key as an integer and as a float.
use Rattle.std.proofs.Common.{◌≡◌, ℕ, zero, suc, ◌+◌, ◌-◌, ◌*◌, ◌^◌, ◌<◌, ◌≤◌, ℤ, pos, negsuc, Bool, T, true, false, inl, inr, refl, sym, ap, subst, ◌∙◌, arith, is_eq, true≢false, Equal}
use Rattle.std.specs.Ordering.{nan_last_cmp}
use Rattle.std.specs.Float.{Float, nan, inf, fin, binary64, float_key, round_to_format}
use Rattle.std.specs.Float.Ieee
use Rattle.std.specs.Float.Cmp.{same_key}
use Rattle.std.proofs.Math.Nat.{mul_assoc, mul-one, mul-pos, zero-mul, mul-lt-mul_of_pos_right}
use Rattle.std.proofs.lemmas.Bool.{cases_order}
use Rattle.std.proofs.lemmas.Bool.Decides.{nat_tests}
use Rattle.std.proofs.lemmas.Nat.{pow-add, pow_below, pow_pos}
use lib.Ieee.{up, down}
use lib.Ieee.Exact.{HasValue, round_exact}
use lib.Ieee.Fits.{down_pos, of_int-fits}
use lib.Ieee.Scale.{round_same}
use lib.Pow.{pow_mono, shl_lt}
use native.Mathlib.Nat.{lt_of_lt_of_le}
use Rattle.serde_json.specs.Data.{Num, float, negative, unsigned}
use Rattle.serde_json.specs.Find.{to_float}
use Rattle.json_values.specs.Keys.{key_of_float, key_of_number}

-- ---- a float that fits is rounded to its own value

same_value : (x : Float) (s : Bool) (m : ℕ) (e : ℤ) → HasValue x s (m * up e) (down e) → nan_last_cmp x (fin s m e) ≡ Equal
unfolding Ieee.lt Ieee.is_nan
same_value nan s m e h = absurd h
same_value (inf t) s m e h = absurd h
same_value (fin true n d) true m e h = grind (arith, nat_tests, h.1)
same_value (fin true n d) false m e h = absurd (true≢false h.0)
same_value (fin false n d) true m e h = absurd (true≢false (sym h.0))
same_value (fin false n d) false m e h = grind (arith, nat_tests, h.1)

zero_kept : (s : Bool) (den : ℕ) → 0 < den → HasValue (Ieee.round binary64 s 0 den) s 0 den
zero_kept s den some = round_exact binary64 s 0 den 0 0 some (omega arith) (omega arith) (grind arith)

large_kept : (s : Bool) (m k : ℕ) → m < 2 ^ 53 → m * 2 ^ k < 2 ^ 1024 → HasValue (Ieee.round binary64 s (m * 2 ^ k) 1) s (m * 2 ^ k) 1
large_kept s m k digits within =
    let shifted : m * 2 ^ (k + 1074) ≡ m * 2 ^ k * 2 ^ 1074 = ap (λ x. m * x) (pow-add 2 k 1074) ∙ sym (mul_assoc m (2 ^ k) (2 ^ 1074)) in
    round_exact binary64 s (m * 2 ^ k) 1 m (k + 1074) (omega arith) digits
    (subst (λ x. x < 2 ^ 1024 * 2 ^ 1074) (sym shifted) (mul-lt-mul_of_pos_right within (pow_pos 1074)))
    (sym shifted ∙ sym (mul-one (m * 2 ^ (k + 1074))))

exponent_at_most : (i j : ℕ) → 2 ^ i ≤ 2 ^ j → i ≤ j
exponent_at_most i j h = elim (cases_order i j) [
  | inl same ↦ omega arith
  | inr (inl less) ↦ omega arith
  | inr (inr more) ↦ let p = pow_below j i more in absurd (omega arith)
]

small_kept : (s : Bool) (m k : ℕ) → m < 2 ^ 53 → 2 ^ suc k ≤ 2 ^ 1074 → HasValue (Ieee.round binary64 s (m * 1) (2 ^ suc k)) s (m * 1) (2 ^ suc k)
small_kept s m k digits within =
    let j = 1074 - suc k in
    let less : suc k ≤ 1074 = exponent_at_most (suc k) 1074 within in
    let together : 2 ^ j * 2 ^ suc k ≡ 2 ^ 1074 = sym (pow-add 2 j (suc k)) ∙ ap (λ i. 2 ^ i) {x = j + suc k} {y = 1074} (omega arith) in
    round_exact binary64 s (m * 1) (2 ^ suc k) m j (pow_pos (suc k)) digits
    (lt_of_lt_of_le (shl_lt 53 j digits) (pow_mono {i = 53 + j} {j = 2098} (omega arith)))
    (ap (λ x. x * 2 ^ 1074) (mul-one m) ∙ ap (λ x. m * x) (sym together) ∙ sym (mul_assoc m (2 ^ j) (2 ^ suc k)))

kept : (s : Bool) (m : ℕ) (e : ℤ) → Ieee.fits binary64 (fin s m e) ≡ true → HasValue (Ieee.round binary64 s (m * up e) (down e)) s (m * up e) (down e)
unfolding Ieee.fits
kept s zero e f = rw zero-mul (zero_kept s (down e) (down_pos e))
kept s (suc m) (pos k) f = large_kept s (suc m) k (grind (arith, nat_tests)) (grind (arith, nat_tests))
kept s (suc m) (negsuc k) f = small_kept s (suc m) k (grind (arith, nat_tests)) (grind (arith, nat_tests))

pub key_of_fitting : (x : Float) → Ieee.fits binary64 x ≡ true → float_key binary64 x ≡ key_of_float x
unfolding round_to_format
key_of_fitting nan f = refl
key_of_fitting (inf s) f = refl
key_of_fitting (fin s m e) f = sym (same_key binary64 _ _ (ap is_eq (same_value _ s m e (kept s m e f))))

-- ---- the key of a number is that of the nearest float

is_so : (b : Bool) → T b → b ≡ true
is_so true h = refl
is_so false h = absurd h

rounded_integer : (s : Bool) (n : ℕ) → T (Ieee.fits binary64 (Ieee.round binary64 s n 1)) → key_of_float (Ieee.round binary64 s n 1) ≡ key_of_float (fin s n (pos 0))
unfolding round_to_format
rounded_integer s n f = sym (key_of_fitting (Ieee.round binary64 s n 1) (is_so _ f)) ∙ ap (λ k. float_key binary64 (Ieee.round binary64 s k 1)) (sym (mul-one n))

pub key_of_nearest : (n : Num) → key_of_float (to_float n) ≡ key_of_number n
unfolding Ieee.of_int
key_of_nearest (unsigned n) = rounded_integer false n (of_int-fits binary64 (pos n))
key_of_nearest (negative (pos n)) = rounded_integer false n (of_int-fits binary64 (pos n))
key_of_nearest (negative (negsuc n)) = rounded_integer true (suc n) (of_int-fits binary64 (negsuc n))
key_of_nearest (float x) = refl

-- ---- floats of one value share a key

zero_bits : (s : Bool) → float_key binary64 (fin s 0 (pos 0)) ≡ 0
unfolding Ieee.to_bits Ieee.is_nan
zero_bits true = refl
zero_bits false = refl

key_of_zero : (s : Bool) (den : ℕ) → 0 < den → float_key binary64 (Ieee.round binary64 s 0 den) ≡ 0
key_of_zero s den some =
    ap (float_key binary64) (round_same binary64 s 0 den 0 1 some (omega arith) (grind arith))
    ∙ same_key binary64 _ _ (ap is_eq (same_value _ s 0 (pos 0) (zero_kept s 1 (omega arith))))
    ∙ zero_bits s

no_factor : (a b : ℕ) → a * b ≡ 0 → 0 < b → a ≡ 0
no_factor zero b h some = refl
no_factor (suc a) b h some = absurd (omega (arith, mul-pos {m = suc a} (omega arith) some))

only_zeros : (m n : ℕ) (e d : ℤ) → is_eq (nan_last_cmp (fin true m e) (fin false n d)) ≡ true → (m * up e ≡ 0) × (n * up d ≡ 0)
unfolding Ieee.lt Ieee.is_nan
only_zeros m n e d h = (no_factor (m * up e) (down d) (grind (arith, nat_tests)) (down_pos d), no_factor (n * up d) (down e) (grind (arith, nat_tests)) (down_pos e))

only_zeros_turned : (m n : ℕ) (e d : ℤ) → is_eq (nan_last_cmp (fin false m e) (fin true n d)) ≡ true → (m * up e ≡ 0) × (n * up d ≡ 0)
unfolding Ieee.lt Ieee.is_nan
only_zeros_turned m n e d h = (no_factor (m * up e) (down d) (grind (arith, nat_tests)) (down_pos d), no_factor (n * up d) (down e) (grind (arith, nat_tests)) (down_pos e))

both_zero : (s t : Bool) (a b c d : ℕ) → (a ≡ 0) × (b ≡ 0) → 0 < c → 0 < d
    → float_key binary64 (Ieee.round binary64 s a c) ≡ float_key binary64 (Ieee.round binary64 t b d)
both_zero s t a b c d none p q =
    ap (λ x. float_key binary64 (Ieee.round binary64 s x c)) none.0 ∙ key_of_zero s c p
    ∙ sym (ap (λ x. float_key binary64 (Ieee.round binary64 t x d)) none.1 ∙ key_of_zero t d q)

pub same_number_key : (x y : Float) → is_eq (nan_last_cmp x y) ≡ true → key_of_float x ≡ key_of_float y
unfolding Ieee.lt Ieee.is_nan round_to_format
same_number_key nan nan h = refl
same_number_key nan (inf t) h = absurd (true≢false (sym h))
same_number_key nan (fin t n d) h = absurd (true≢false (sym h))
same_number_key (inf s) nan h = absurd (true≢false (sym h))
same_number_key (inf true) (inf true) h = refl
same_number_key (inf true) (inf false) h = absurd (true≢false (sym h))
same_number_key (inf false) (inf true) h = absurd (true≢false (sym h))
same_number_key (inf false) (inf false) h = refl
same_number_key (inf true) (fin t n d) h = absurd (true≢false (sym h))
same_number_key (inf false) (fin t n d) h = absurd (true≢false (sym h))
same_number_key (fin s m e) nan h = absurd (true≢false (sym h))
same_number_key (fin s m e) (inf true) h = absurd (true≢false (sym h))
same_number_key (fin s m e) (inf false) h = absurd (true≢false (sym h))
same_number_key (fin true m e) (fin true n d) h =
    ap (float_key binary64) (round_same binary64 true (m * up e) (down e) (n * up d) (down d) (down_pos e) (down_pos d) (grind (arith, nat_tests)))
same_number_key (fin false m e) (fin false n d) h =
    ap (float_key binary64) (round_same binary64 false (m * up e) (down e) (n * up d) (down d) (down_pos e) (down_pos d) (grind (arith, nat_tests)))
same_number_key (fin true m e) (fin false n d) h =
    both_zero true false (m * up e) (n * up d) (down e) (down d) (only_zeros m n e d h) (down_pos e) (down_pos d)
same_number_key (fin false m e) (fin true n d) h =
    both_zero false true (m * up e) (n * up d) (down e) (down d) (only_zeros_turned m n e d h) (down_pos e) (down_pos d)
