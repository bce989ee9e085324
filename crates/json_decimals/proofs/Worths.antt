-- How an amount is found.
use Rattle.std.proofs.Common.{◌≡◌, ℕ, ℤ, pos, negsuc, suc, ◌+◌, ◌*◌, ◌/◌, ◌%◌, ◌^◌, ◌<◌, ◌≤◌, refl, sym, ap, subst, ◌∙◌, arith, inl, inr, unsigned_abs, mul-le-mul_right, Bool, true, false, cond, ltb, ◌==◌, true≢false, IsTrue, Option, Some, None}
use Rattle.std.proofs.Math.Nat.{mul_assoc}
use Rattle.std.proofs.lemmas.Bool.{cases_lt}
use Rattle.std.proofs.lemmas.Nat.{mul-pow, pow-add}
use Rattle.std.specs.Float.{Float, nan, inf, fin, binary64, float_is_finite, float_with_sign}
use Rattle.fast_float.proofs.ExactLemmas.{ten_to_pos}
use Rattle.serde_json.specs.Data.{Num, float, negative, unsigned}
use Rattle.json_values.proofs.Comparing.{top_is}
use lib.Ieee.{down, lt, of_bits, up}
use lib.Pow.{pow_mono}
use lib.Ieee.Positive.{den, den_pos, num}
use Rattle.json_decimals.specs.Amounts.{one, units, IsAmountOf, IsReduced}
use Rattle.json_decimals.specs.Decimals.{Fraction, decimal_or_exact, exact, short_power, size_of, size_of_integer}
use Rattle.json_decimals.specs.Multiples.{divides, is_multiple_of}
use Rattle.serde_json.specs.Find.{as_u64}
use Rattle.json_decimals.specs.declared.amounts.Amount.{Amount}

-- ---- the factors of five

pub five_moved : (n f N : ℕ) → n * 5 ^ f ≡ N → n % 5 ≡ 0 → n / 5 * 5 ^ (f + 1) ≡ N
five_moved n f N same none =
    let parts : n / 5 * 5 ≡ n = omega arith in
    let one_more : 5 ^ (f + 1) ≡ 5 ^ f * 5 = pow-add 5 f 1 in
    omega (arith, ap (λ x. n / 5 * x) one_more, ap (λ x. x * 5 ^ f) parts)

pub still_few : (n k j M : ℕ) → n * 2 ^ k < M → j ≡ k + 1 → n / 5 * 2 ^ j < M
still_few n k j M few next =
    let twice : 2 ^ j ≡ 2 ^ k * 2 = ap (λ x. 2 ^ x) next ∙ pow-add 2 k 1 in
    let less : n / 5 * 2 ≤ n = omega arith in
    omega (arith, ap (λ x. n / 5 * x) twice, mul-le-mul_right (2 ^ k) less)

pub few_fives : (n k : ℕ) → 0 < n → n * 2 ^ k < 2 ^ 64 → k < 64
few_fives n k some few =
    elim (cases_lt k 64) [
      | inl less ↦ less
      | inr more ↦
          let large : 2 ^ 64 ≤ 2 ^ k = pow_mono more in
          let once : 1 * 2 ^ k ≤ n * 2 ^ k = mul-le-mul_right (2 ^ k) (let h : 1 ≤ n = omega arith in h) in
          absurd (omega arith)
    ]

-- ---- from digits and powers to amounts

-- n / c is digits * 2 ^ twos * 5 ^ fives in units
pub amount_is : (f : Fraction) (a : Amount) (W : ℕ) → units a ≡ W → IsReduced a.digits → f.over * one ≡ W * f.under → IsAmountOf f a
amount_is f a W same reduced worth = (worth ∙ ap (λ n. n * f.under) (sym same), reduced)

pub integer_worth : (n : ℕ) → n * one ≡ n * 2 ^ 1074 * 5 ^ 400 * 1
unfolding one
integer_worth n = omega (arith, mul_assoc n (2 ^ 1074) (5 ^ 400))

pub integer_amount : (z : ℤ) (a : Amount) → units a ≡ unsigned_abs z * 2 ^ 1074 * 5 ^ 400 → IsReduced a.digits → IsAmountOf (size_of_integer z) a
integer_amount (pos n) a same reduced = amount_is _ a _ same reduced (integer_worth n)
integer_amount (negsuc n) a same reduced = amount_is _ a _ same reduced (integer_worth (suc n))

worth_by_twos : (N D W L F : ℕ) → N * L ≡ W * D → N * (L * F) ≡ W * F * D
worth_by_twos N D W L F same = omega (arith, ap (λ x. x * F) same)

-- a float of W units of 2 ^ -1074
pub float_worth : (x : Float) (W : ℕ) → num x * 2 ^ 1074 ≡ W * den x → num x * one ≡ W * 5 ^ 400 * den x
unfolding one
float_worth x W same = worth_by_twos (num x) (den x) W (2 ^ 1074) (5 ^ 400) same

-- a decimal, whose tens are twos and fives
pub decimal_worth : (k p : ℕ) → k * 10 ^ p * one ≡ k * 2 ^ (p + 674) * 5 ^ p * 10 ^ 400
unfolding one
decimal_worth k p =
    let tens : 10 ^ p ≡ 2 ^ p * 5 ^ p = mul-pow 2 5 p in
    let unit : 10 ^ 400 ≡ 2 ^ 400 * 5 ^ 400 = mul-pow 2 5 400 in
    let low : 2 ^ 1074 ≡ 2 ^ 674 * 2 ^ 400 = pow-add 2 674 400 in
    let more : 2 ^ (p + 674) ≡ 2 ^ p * 2 ^ 674 = pow-add 2 p 674 in
    ap (λ t. k * t * (2 ^ 1074 * 5 ^ 400)) tens
    ∙ ap (λ t. k * (2 ^ p * 5 ^ p) * (t * 5 ^ 400)) low
    ∙ arranged k (2 ^ p) (5 ^ p) (2 ^ 674) (2 ^ 400) (5 ^ 400)
    ∙ ap (λ t. k * t * 5 ^ p * (2 ^ 400 * 5 ^ 400)) (sym more)
    ∙ ap (λ t. k * 2 ^ (p + 674) * 5 ^ p * t) (sym unit)
  where
    arranged : (k a b c d e : ℕ) → k * (a * b) * (c * d * e) ≡ k * (a * c) * b * (d * e)
    arranged k a b c d e = grind arith

pub natural_amount : (n : ℕ) (a : Amount) → units a ≡ n * 2 ^ 1074 * 5 ^ 400 → IsReduced a.digits → IsAmountOf (size_of (unsigned n)) a
natural_amount n a same reduced = amount_is _ a _ same reduced (integer_worth n)

-- ---- the size of a float

pub finite_size : (x y : Float) → y ≡ float_with_sign false x → IsTrue (float_is_finite x) → IsTrue (float_is_finite y)
unfolding float_is_finite float_with_sign
finite_size nan y same finite = absurd (true≢false (sym finite))
finite_size (inf s) y same finite = absurd (true≢false (sym finite))
finite_size (fin s m e) y same finite = subst (λ z. IsTrue (float_is_finite z)) (sym same) refl

pub sign_dropped : (x y : Float) → y ≡ float_with_sign false x → float_with_sign false y ≡ y
unfolding float_with_sign
sign_dropped nan y same = subst (λ z. float_with_sign false z ≡ z) (sym same) refl
sign_dropped (inf s) y same = subst (λ z. float_with_sign false z ≡ z) (sym same) refl
sign_dropped (fin s m e) y same = subst (λ z. float_with_sign false z ≡ z) (sym same) refl

-- ---- the denominators

decimal_or_exact_pos : (x : Float) (o : Option ℕ) → 0 < (decimal_or_exact x o).under
decimal_or_exact_pos x None = den_pos x
decimal_or_exact_pos x (Some p) = ten_to_pos 400

written_pos : (x : Float) (b : Bool) (o : Option ℕ) → 0 < (cond b (decimal_or_exact x o) (exact x)).under
written_pos x true o = decimal_or_exact_pos x o
written_pos x false o = den_pos x

pub under_pos : (n : Num) → 0 < (size_of n).under
under_pos (unsigned n) = omega arith
under_pos (negative (pos n)) = omega arith
under_pos (negative (negsuc n)) = omega arith
under_pos (float x) = written_pos (float_with_sign false x) _ (short_power (float_with_sign false x) 801)

-- ---- a small integer

pub whole_is : (x : Float) → divides (record { over = 1; under = 1 }) (exact x) ≡ (num x % den x == 0)
whole_is x =
    let over : num x * 1 ≡ num x = omega arith in
    let under : 1 * den x ≡ den x = omega arith in
    ap (λ n. n % (1 * den x) == 0) over ∙ ap (λ n. num x % n == 0) under

pub one_amount : IsAmountOf (record { over = 1; under = 1 }) (record { digits = 1; twos = 1074; fives = 400 })
unfolding one
one_amount = (refl, inr (refl, λ h. omega (arith, h)))

below_end : (m : ℕ) (e : ℤ) → lt (fin false m e) (fin false 1 (pos 64)) ≡ ltb (m * up e) (2 ^ 64 * down e)
unfolding lt
below_end m e =
    let left : m * up e * 1 ≡ m * up e = omega arith in
    let right : 1 * 2 ^ 64 * down e ≡ 2 ^ 64 * down e = omega arith in
    ap (λ n. ltb n (1 * 2 ^ 64 * down e)) left ∙ ap (λ n. ltb (m * up e) n) right

pub below_is : (x : Float) → IsTrue (float_is_finite x) → float_with_sign false x ≡ x → lt x (of_bits binary64 0x43f0_0000_0000_0000) ≡ ltb (num x) (2 ^ 64 * den x)
unfolding float_is_finite float_with_sign
below_is nan finite positive = absurd (true≢false (sym finite))
below_is (inf s) finite positive = absurd (true≢false (sym finite))
below_is (fin s m e) finite positive = ap (λ y. lt (fin s m e) y) top_is ∙ subst (λ y. lt y (fin false 1 (pos 64)) ≡ ltb (m * up e) (2 ^ 64 * down e)) positive (below_end m e)

-- ---- two integers

is_some : Option ℕ → Bool
is_some None = false
is_some (Some n) = true

value_or_zero : Option ℕ → ℕ
value_or_zero None = 0
value_or_zero (Some n) = n

natural_is : (v : Num) (n : ℕ) → Some n ≡ as_u64 v → v ≡ unsigned n
unfolding is_some value_or_zero
natural_is (unsigned m) n same = ap unsigned (sym (ap value_or_zero same))
natural_is (negative z) n same = absurd (true≢false (ap is_some same))
natural_is (float x) n same = absurd (true≢false (ap is_some same))

pub naturals : (v w : Num) (n d : ℕ) → Some n ≡ as_u64 v → Some d ≡ as_u64 w → (n % d == 0) ≡ is_multiple_of v w
unfolding is_multiple_of
naturals v w n d number divisor =
    let over : n * 1 ≡ n = omega arith in
    let under : d * 1 ≡ d = omega arith in
    let plain : is_multiple_of (unsigned n) (unsigned d) ≡ (n % d == 0) = ap (λ a. a % (d * 1) == 0) over ∙ ap (λ b. n % b == 0) under in
    sym plain ∙ ap (λ a. is_multiple_of a (unsigned d)) (sym (natural_is v n number)) ∙ ap (is_multiple_of v) (sym (natural_is w d divisor))
