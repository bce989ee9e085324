-- An integer and a float of one value are multiples of the same numbers, and have the same
-- multiples.
use Rattle.std.proofs.Common.{◌≡◌, ℕ, ℤ, Bool, true, false, not, cond, ◌&&◌, ltb, ◌==◌, ◌*◌, ◌%◌, ◌^◌, ◌<◌, refl, sym, ap, subst, ◌∙◌, arith, true≢false, eq-eqb, mul-lt-mul_of_pos_right}
use Rattle.std.proofs.Math.Nat.{mul_right_comm, mul-mod_left}
use Rattle.std.proofs.lemmas.Bool.{lt-ltb}
use Rattle.std.proofs.lemmas.Bool.Decides.{nat_tests}
use Rattle.std.specs.Float.{Float, nan, inf, fin, binary64, float_with_sign, is_normal}
use lib.Ieee.{down, is_nan, lt, up}
use lib.Ieee.Fits.{down_pos}
use Rattle.serde_json.specs.Data.{Num, float, unsigned}
use Rattle.json_values.specs.Numbers.{same_number}
use Rattle.json_decimals.specs.Decimals.{Fraction, decimal_or_exact, exact, is_small_integer, short_power, size_of, written}
use Rattle.json_decimals.specs.Multiples.{divides, is_multiple_of}
use Rattle.json_decimals.proofs.Division.{scaled}
use Rattle.json_decimals.proofs.Worths.{under_pos}

-- ---- two fractions of one value

module _ (f g : Fraction) (some_f : 0 < f.under) (some_g : 0 < g.under) (same : f.over * g.under ≡ g.over * f.under) where
  one_dividend : (d : Fraction) → divides d f ≡ divides d g
  one_dividend d =
      let over : f.over * d.under * g.under ≡ g.over * d.under * f.under = mul_right_comm f.over d.under g.under ∙ ap (λ n. n * d.under) same ∙ mul_right_comm g.over f.under d.under in
      let under : d.over * f.under * g.under ≡ d.over * g.under * f.under = mul_right_comm d.over f.under g.under in
      sym (scaled (f.over * d.under) (d.over * f.under) g.under some_g)
      ∙ ap (λ n. n % (d.over * f.under * g.under) == 0) over
      ∙ ap (λ n. (g.over * d.under * f.under) % n == 0) under
      ∙ scaled (g.over * d.under) (d.over * g.under) f.under some_f

  one_divisor : (x : Fraction) → divides f x ≡ divides g x
  one_divisor x =
      let over : x.over * f.under * g.under ≡ x.over * g.under * f.under = mul_right_comm x.over f.under g.under in
      let under : f.over * x.under * g.under ≡ g.over * x.under * f.under = mul_right_comm f.over x.under g.under ∙ ap (λ n. n * x.under) same ∙ mul_right_comm g.over f.under x.under in
      sym (scaled (x.over * f.under) (f.over * x.under) g.under some_g)
      ∙ ap (λ n. n % (f.over * x.under * g.under) == 0) over
      ∙ ap (λ n. (x.over * g.under * f.under) % n == 0) under
      ∙ scaled (x.over * g.under) (g.over * x.under) f.under some_f

-- ---- an integer below 2 ^ 64 and a float

abbrev IsValue : ℕ → Fraction → Type 0
IsValue n f = n * f.under ≡ f.over * 1

not_normal : (b : Bool) → (b && not true) ≡ false
not_normal true = refl
not_normal false = refl

-- a float that is such an integer stands for its exact value
small_is_exact : (x : Float) → is_small_integer x ≡ true → written x ≡ exact x
small_is_exact x small =
    ap (λ b. cond (is_normal binary64 x && not b) (decimal_or_exact x (short_power x 801)) (exact x)) small
    ∙ ap (λ b. cond b (decimal_or_exact x (short_power x 801)) (exact x)) (not_normal (is_normal binary64 x))

is_small : (n m : ℕ) (e : ℤ) → n < 2 ^ 64 → n * down e ≡ m * up e → is_small_integer (fin false m e) ≡ true
is_small n m e few same =
    let less : n * down e < 2 ^ 64 * down e = mul-lt-mul_of_pos_right few (down_pos e) in
    let below : ltb (m * up e) (2 ^ 64 * down e) ≡ true = lt-ltb _ _ (subst (λ k. k < 2 ^ 64 * down e) same less) in
    let whole : (m * up e % down e == 0) ≡ true = eq-eqb _ _ (ap (λ k. k % down e) (sym same) ∙ mul-mod_left n (down e)) in
    ap (λ b. b && (m * up e % down e == 0)) below ∙ whole

has_value : (n m : ℕ) (e : ℤ) → n < 2 ^ 64 → n * down e ≡ m * up e → IsValue n (written (fin false m e))
has_value n m e few same = subst (IsValue n) (sym (small_is_exact (fin false m e) (is_small n m e few same))) (omega (arith, same))

equal_values : (n : ℕ) (s : Bool) (m : ℕ) (e : ℤ) → same_number (unsigned n) (float (fin s m e)) ≡ true → n * down e ≡ m * up e
unfolding lt is_nan
equal_values n true m e same = grind (arith, nat_tests, same)
equal_values n false m e same = grind (arith, nat_tests, same)

of_float : (n : ℕ) (x : Float) → n < 2 ^ 64 → same_number (unsigned n) (float x) ≡ true → IsValue n (size_of (float x))
unfolding lt is_nan float_with_sign
of_float n nan few same = absurd (true≢false (sym same))
of_float n (inf true) few same = absurd (true≢false (sym same))
of_float n (inf false) few same = absurd (true≢false (sym same))
of_float n (fin s m e) few same = has_value n m e few (equal_values n s m e same)

pub one_dividend_of_both : (n : ℕ) (x : Float) (d : Num) → n < 2 ^ 64 → same_number (unsigned n) (float x) ≡ true → is_multiple_of (unsigned n) d ≡ is_multiple_of (float x) d
unfolding is_multiple_of
one_dividend_of_both n x d few same = one_dividend (size_of (unsigned n)) (size_of (float x)) (under_pos (unsigned n)) (under_pos (float x)) (of_float n x few same) (size_of d)

pub one_divisor_of_both : (n : ℕ) (x : Float) (y : Num) → n < 2 ^ 64 → same_number (unsigned n) (float x) ≡ true → is_multiple_of y (unsigned n) ≡ is_multiple_of y (float x)
unfolding is_multiple_of
one_divisor_of_both n x y few same = one_divisor (size_of (unsigned n)) (size_of (float x)) (under_pos (unsigned n)) (under_pos (float x)) (of_float n x few same) (size_of y)
