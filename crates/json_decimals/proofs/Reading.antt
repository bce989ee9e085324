-- Which decimals read as a float, by their order.
use Rattle.std.proofs.Common.{◌≡◌, ℕ, zero, suc, ℤ, pos, negsuc, Bool, true, false, not, cond, ◌&&◌, leb, ◌+◌, ◌-◌, ◌*◌, ◌^◌, ◌<◌, ◌≤◌, T, ◌⊎◌, inl, inr, refl, sym, ap, subst, ◌∙◌, arith, Some, None, true≢false, mul-pos, mul-le-mul_left, mul-le-mul_right}
use Rattle.std.proofs.Math.Nat.{le_refl, mul_assoc, zero-mul}
use Rattle.std.specs.Bool.{fails, passes}
use Rattle.std.specs.Float.{binary64, float_is_finite, float_with_sign, is_normal, ◌≤ᶠ◌, ◌<ᶠ◌, NotNan}
use Rattle.std.proofs.lemmas.Bool.{and_parts, cases_Bool, cases_lt}
use Rattle.std.proofs.lemmas.Float as Order
use Rattle.std.proofs.lemmas.Nat.{pow-add}
use Rattle.fast_float.proofs.ExactLemmas.{ten_to_pos}
use lib.Dec.{leb→le, ltb→lt, lt→ltb}
use lib.Ieee.{Float, nan, inf, fin, down, eq, is_nan, le, lt, of_bits, round, up}
use lib.Ieee.Fits.{up_pos}
use lib.Ieee.Order.{round_mono}
use lib.Ieee.Positive.{above_of_le, le→cross}
use Rattle.json_decimals.specs.Decimals.{exact, is_small_integer, written, decimal, decimal_or_exact, digits_at, is_short_at, read, short_power}
use Rattle.json_decimals.proofs.Uniqueness.{digits_are, same_decimal}

-- ---- what is read keeps the order

read_le : (k p l q : ℕ) → k * 10 ^ p ≤ l * 10 ^ q → read k p ≤ᶠ read l q
read_le k p l q h = round_mono binary64 _ _ _ _ (ten_to_pos 400) (ten_to_pos 400) (mul-le-mul_right (10 ^ 400) h)

read_no_nan : (k p : ℕ) → NotNan (read k p)
read_no_nan k p = Order.le_left _ _ (read_le k p k p (le_refl _))

nothing_reads : round binary64 false 0 (10 ^ 400) ≡ fin false 0 (pos 0)
unfolding round
nothing_reads = refl

above_nothing : (m : ℕ) (e : ℤ) → 0 < m → fin false 0 (pos 0) <ᶠ fin false m e
unfolding lt
above_nothing m e some = let h : 0 * 1 * down e < m * up e * 1 = omega (arith, mul-pos some (up_pos e)) in lt→ltb _ _ h

zero_below : (p m : ℕ) (e : ℤ) → 0 < m → read 0 p <ᶠ fin false m e
zero_below p m e some = subst (λ y. y <ᶠ fin false m e) (sym (ap (λ n. round binary64 false n (10 ^ 400)) (zero-mul (10 ^ p)) ∙ nothing_reads)) (above_nothing m e some)

top_reads : round binary64 false (10 ^ 14 * 10 ^ 800) (10 ^ 400) ≡ inf false
unfolding round
top_reads = refl

inf_not_below : (y : Float) → T (not (lt (inf false) y))
unfolding lt
inf_not_below nan = tt
inf_not_below (inf s) = tt
inf_not_below (fin s m e) = tt

-- 10 ^ 414 is past the floats
pub top_not_below : (x : Float) → T (not (lt (read (10 ^ 14) 800) x))
top_not_below x = subst (λ y. T (not (lt y x))) (sym top_reads) (inf_not_below x)

-- ---- Where no decimal reads as the float: the digits g at the power p lie below it, those after them above it, and 15 digits at the power before p do not reach it.
module _ (m : ℕ) (e : ℤ) (some : 0 < m) (p g : ℕ) (powers : (p ≡ 0) ⊎ (read (10 ^ 14) p <ᶠ fin false m e)) (digits : (g ≡ 0) ⊎ (read g p <ᶠ fin false m e))
    (above : T (not (lt (read (g + 1) p) (fin false m e)))) (other : eq (read (g + 1) p) (fin false m e) ≡ false) where
  digits_below : read g p <ᶠ fin false m e
  digits_below = elim digits [ inl none ↦ subst (λ n. read n p <ᶠ fin false m e) (sym none) (zero_below p m e some) | inr less ↦ less ]

  not_equal : (k q : ℕ) → read k q <ᶠ fin false m e → T (eq (read k q) (fin false m e)) → ⊥
  not_equal k q less same = Order.eq-not_lt _ _ same less

  few_tens : (k q : ℕ) → k ≤ 10 ^ 15 → q < p → k * 10 ^ q ≤ 10 ^ 14 * 10 ^ p
  few_tens k q few less =
      let apart : p ≡ q + (p - q - 1) + 1 = omega arith in
      let split : 10 ^ p ≡ 10 ^ (q + (p - q - 1)) * 10 = ap (λ n. 10 ^ n) apart ∙ pow-add 10 (q + (p - q - 1)) 1 in
      let more : 10 ^ q * 1 ≤ 10 ^ q * 10 ^ (p - q - 1) = mul-le-mul_left (10 ^ q) (ten_to_pos (p - q - 1)) in
      let parts = pow-add 10 q (p - q - 1) in
      let most : k * 10 ^ q ≤ 10 ^ 15 * 10 ^ q = mul-le-mul_right (10 ^ q) few in
      omega arith

  below_power : (k q : ℕ) → k ≤ 10 ^ 15 → q < p → read k q <ᶠ fin false m e
  below_power k q few less =
      elim powers [
        | inl none ↦ absurd (omega arith)
        | inr under ↦ Order.lt_of_le_of_lt _ _ _ (read_le k q (10 ^ 14) p (few_tens k q few less)) under
      ]

  at_power : (k q : ℕ) → p ≤ q → k * 10 ^ q ≡ k * 10 ^ (q - p) * 10 ^ p
  at_power k q up = let apart : q ≡ q - p + p = omega arith in ap (λ n. k * 10 ^ n) apart ∙ ap (λ n. k * n) (pow-add 10 (q - p) p) ∙ sym (mul_assoc k _ _)

  next_above : fin false m e <ᶠ read (g + 1) p
  unfolding is_nan
  next_above =
      elim (Order.lt-or-eq _ _ (Order.le_of_not-lt _ _ (read_no_nan (g + 1) p) tt above)) [
        | inl less ↦ less
        | inr same ↦ absurd (true≢false (sym (T_true _ (Order.eq_flip _ _ same)) ∙ other))
      ]
    where
      T_true : (b : Bool) → T b → b ≡ true
      T_true true t = refl
      T_true false t = absurd t

  pub none_reads : (k q : ℕ) → k ≤ 10 ^ 15 → T (eq (read k q) (fin false m e)) → ⊥
  none_reads k q few same =
      elim (cases_lt q p) [
        | inl less ↦ not_equal k q (below_power k q few less) same
        | inr up ↦ elim (cases_lt (k * 10 ^ (q - p)) (g + 1)) [
          | inl small ↦
              let order : k * 10 ^ (q - p) * 10 ^ p ≤ g * 10 ^ p = mul-le-mul_right (10 ^ p) (let h : k * 10 ^ (q - p) ≤ g = omega arith in h) in
              not_equal k q (Order.lt_of_le_of_lt _ _ _ (read_le k q g p (subst (λ n. n ≤ g * 10 ^ p) (sym (at_power k q up)) order)) digits_below) same
          | inr large ↦
              let order : (g + 1) * 10 ^ p ≤ k * 10 ^ (q - p) * 10 ^ p = mul-le-mul_right (10 ^ p) large in
              let past = Order.lt_of_lt_of_le _ _ _ next_above (read_le (g + 1) p k q (subst (λ n. (g + 1) * 10 ^ p ≤ n) (sym (at_power k q up)) order)) in
              Order.eq-not_lt _ _ (Order.eq_flip _ _ same) past
        ]
      ]

-- ---- the first short power

first_short : (x : Float) (n p : ℕ) → p < n → is_short_at x p ≡ true → (q : ℕ) × (short_power x n ≡ Some q) × (is_short_at x q ≡ true)
unfolding short_power
first_short x zero p less short = absurd (omega arith)
first_short x (suc n) p less short =
    elim (cases_Bool (is_short_at x n)) [
      | inl now ↦ (n, rw now refl, now)
      | inr not_now ↦ elim (cases_lt p n) [
        | inl before ↦ let rest = first_short x n p before short in (rest.0, rw not_now rest.1, rest.2)
        | inr past ↦ let same : n ≡ p = omega arith in absurd (true≢false (sym short ∙ sym (ap (is_short_at x) same) ∙ not_now))
      ]
    ]

never_short : (x : Float) (n : ℕ) → ((p : ℕ) → is_short_at x p ≡ true → ⊥) → short_power x n ≡ None
unfolding short_power
never_short x zero never = refl
never_short x (suc n) never =
    elim (cases_Bool (is_short_at x n)) [
      | inl now ↦ absurd (never n now)
      | inr not_now ↦ rw not_now (never_short x n never)
    ]

-- ---- a normal float

normal_is : of_bits binary64 (2 ^ 52) ≡ fin false 1 (negsuc 1021)
unfolding of_bits
normal_is = refl

-- the float is above 0, and has 53 digits
pub record IsNormal (m : ℕ) (e : ℤ) : Type 0 where
  pub some : 0 < m
  pub many : 2 ^ 52 * down e ≤ m * up e * 2 ^ 1074

normal_size : (m : ℕ) (e : ℤ) → T (le (fin false 1 (negsuc 1021)) (fin false m e)) → IsNormal m e
normal_size m e h =
    let above = above_of_le (fin false 1 (negsuc 1021)) (fin false m e) tt h in
    let cross : 1 * 1 * down e ≤ m * up e * 2 ^ 1022 = le→cross (fin false 1 (negsuc 1021)) (fin false m e) tt above h in
    let digits : 2 ^ 1074 ≡ 2 ^ 1022 * 2 ^ 52 = pow-add 2 1022 52 in
    record { some = ltb→lt 0 m above; many = widened (down e) (m * up e) (2 ^ 1022) (2 ^ 52) (2 ^ 1074) digits cross }
  where
    widened : (D X L M N : ℕ) → N ≡ L * M → 1 * 1 * D ≤ X * L → M * D ≤ X * N
    widened D X L M N same h = omega (arith, ap (λ n. X * n) same, mul-le-mul_right M h)

-- what holds of the normal floats above 0 holds of a float that is one
by_size : (P : Float → Type 0) (x : Float) → is_normal binary64 x ≡ true → float_with_sign false x ≡ x → ((m : ℕ) (e : ℤ) → IsNormal m e → P (fin false m e)) → P x
unfolding float_is_finite float_with_sign
by_size P nan normal positive each = absurd (true≢false (sym normal))
by_size P (inf s) normal positive each = absurd (true≢false (sym normal))
by_size P (fin s m e) normal positive each =
    subst P positive (each m e (normal_size m e (subst (λ y. T (le y (fin false m e))) normal_is (passes _ (and_parts (float_is_finite (fin s m e)) (le (of_bits binary64 (2 ^ 52)) (fin false m e)) normal).1))))

-- ---- what the search finds

abbrev Found : ℕ → ℕ → Float → Type 0
Found k p x = k ≤ 10 ^ 15 → p < 801 → eq (read k p) x ≡ true → decimal_or_exact x (short_power x 801) ≡ decimal k p

short_is : (x : Float) (k p : ℕ) → digits_at x p ≡ k → leb k (10 ^ 15) ≡ true → eq (read k p) x ≡ true → is_short_at x p ≡ true
short_is x k p same few reads = rw same (rw (few, reads) refl)

found_normal : (k p m : ℕ) (e : ℤ) → IsNormal m e → Found k p (fin false m e)
found_normal k p m e normal few within reads =
    let x = fin false m e in
    let same = digits_are m e normal.many k p few (passes _ reads) in
    let first = first_short x 801 p within (short_is x k p same (le_true k (10 ^ 15) few) reads) in
    let parts = and_parts _ _ first.2 in
    let value = same_decimal m e normal.many (digits_at x first.0) first.0 k p (leb→le _ _ (passes _ parts.0)) few (passes _ parts.1) (passes _ reads) in
    ap (decimal_or_exact x) first.1 ∙ ap (λ n. record { over = n; under = 10 ^ 400 }) value
  where
    le_true : (a b : ℕ) → a ≤ b → leb a b ≡ true
    le_true a b h = grind arith

-- a decimal that reads as the float is the one that the definition finds
pub found : (x : Float) (k p : ℕ) → is_normal binary64 x ≡ true → float_with_sign false x ≡ x → Found k p x
found x k p normal positive = by_size (Found k p) x normal positive (found_normal k p)

abbrev Missed : ℕ → ℕ → Float → Type 0
Missed p g x =
    ((p ≡ 0) ⊎ (read (10 ^ 14) p <ᶠ x)) → ((g ≡ 0) ⊎ (read g p <ᶠ x)) → T (not (lt (read (g + 1) p) x)) → eq (read (g + 1) p) x ≡ false → short_power x 801 ≡ None

missed_normal : (p g m : ℕ) (e : ℤ) → IsNormal m e → Missed p g (fin false m e)
missed_normal p g m e normal powers digits above other =
    never_short (fin false m e) 801 (λ q short.
    let parts = and_parts _ _ short in
    none_reads m e normal.some p g powers digits above other (digits_at (fin false m e) q) q (leb→le _ _ (passes _ parts.0)) (passes _ parts.1))

-- where the search finds nothing, the definition does not
pub missed : (x : Float) (p g : ℕ) → is_normal binary64 x ≡ true → float_with_sign false x ≡ x → Missed p g x
missed x p g normal positive = by_size (Missed p g) x normal positive (missed_normal p g)

-- ---- what the search's tests say

next_power : (p : ℕ) → read (10 ^ 15) p ≡ read (10 ^ 14) (p + 1)
next_power p =
    let split = pow-add 10 p 1 in
    ap (λ n. round binary64 false n (10 ^ 400)) (let same : 10 ^ 15 * 10 ^ p ≡ 10 ^ 14 * 10 ^ (p + 1) = omega arith in same)

end_not_below : (x : Float) (p : ℕ) → p < 800 → (p + 1 ≡ 800) ⊎ (p + 1 ≤ 800 → false ≡ lt (read (10 ^ 14) (p + 1)) x) → T (not (lt (read (10 ^ 15) p) x))
end_not_below x p within powers =
    subst (λ y. T (not (lt y x))) (sym (next_power p)) (
    elim powers [
      | inl last ↦ subst (λ n. T (not (lt (read (10 ^ 14) n) x))) (sym last) (top_not_below x)
      | inr over ↦ fails _ (sym (over (omega arith)))
    ]
    )

pub missed_by_tests : (x : Float) (p g : ℕ) → is_normal binary64 x ≡ true → float_with_sign false x ≡ x → p < 800
    → (p ≡ 0) ⊎ (p ≤ 800 → true ≡ lt (read (10 ^ 14) p) x) → (p + 1 ≡ 800) ⊎ (p + 1 ≤ 800 → false ≡ lt (read (10 ^ 14) (p + 1)) x)
    → (g ≡ 0) ⊎ (p ≤ 800 → true ≡ lt (read g p) x) → (g + 1 ≡ 10 ^ 15) ⊎ (p ≤ 800 → false ≡ lt (read (g + 1) p) x)
    → eq (read (g + 1) p) x ≡ false → short_power x 801 ≡ None
missed_by_tests x p g normal positive within powers next_powers digits next_digits other =
    let inside : p ≤ 800 = omega arith in
    missed x p g normal positive
    (elim powers [ inl none ↦ inl none | inr under ↦ inr (passes _ (sym (under inside))) ])
    (elim digits [ inl none ↦ inl none | inr under ↦ inr (passes _ (sym (under inside))) ])
    (elim next_digits [
      | inl last ↦ subst (λ n. T (not (lt (read n p) x))) (sym last) (end_not_below x p within next_powers)
      | inr over ↦ fails _ (sym (over inside))
    ])
    other

-- ---- what a reader may want to know of the definition

-- A decimal of at most 15 digits that reads as a float is what the float stands for, if the float is normal and no integer below 2 ^ 64.
pub written_as : (x : Float) (k p : ℕ) → is_normal binary64 x ≡ true → float_with_sign false x ≡ x → is_small_integer x ≡ false → k ≤ 10 ^ 15 → p < 801
    → eq (read k p) x ≡ true → written x ≡ decimal k p
written_as x k p normal positive fraction few within reads =
    let short = decimal_or_exact x (short_power x 801) in
    ap (λ b. cond (b && not (is_small_integer x)) short (exact x)) normal
    ∙ ap (λ b. cond (not b) short (exact x)) fraction
    ∙ found x k p normal positive few within reads
