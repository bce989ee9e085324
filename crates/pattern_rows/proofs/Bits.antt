-- The bits of words.
use Rattle.std.proofs.Common.{◌≡◌, ◌<◌, ◌≤◌, ◌==◌, ◌&&◌, ◌||◌, not, ◌^◌, ◌*◌, ◌%◌, ◌/◌, ◌+◌, ◌-◌, ℕ, Bool, true, false, zero, suc, cond, ap, refl, subst, sym, ◌∙◌, div-one, w64, bit_and, bit_or, arith, max, min, nat_le, nat_lt, ◌≢◌, true≢false}
use Rattle.std.specs.Int.{bit_at, bit_not}
use Rattle.std.proofs.lemmas.Bool.{eqb-false, eqb-true}
use Rattle.std.proofs.lemmas.Bool.Decides.{nat_tests}
use Rattle.std.proofs.lemmas.Nat.Bits.{bit_at-lt, bit_at_and, bit_at_or, bit_at_not, bit_at_set_other, bit_at_set_same, bit_at_ones, bit_at_ones_above, ones_shr, bit_at-zero, bit_at_above, bit_at-trailing_zeros}
use Rattle.std.specs.Int.{trailing_zeros}
use Rattle.std.proofs.Math.Nat.{div-div-eq-div-mul, div-le_self}
use Rattle.std.proofs.lemmas.Nat.{pow-add}

max_bit : (x y : ℕ) → x < 2 → y < 2 → (max x y == 1) ≡ ((x == 1) || (y == 1))
max_bit zero zero h k = refl
max_bit zero (suc zero) h k = refl
max_bit zero (suc (suc y)) h k = absurd (omega arith)
max_bit (suc zero) zero h k = refl
max_bit (suc zero) (suc zero) h k = refl
max_bit (suc zero) (suc (suc y)) h k = absurd (omega arith)
max_bit (suc (suc x)) y h k = absurd (omega arith)

min_bit : (x y : ℕ) → x < 2 → y < 2 → (min x y == 1) ≡ ((x == 1) && (y == 1))
min_bit zero zero h k = refl
min_bit zero (suc zero) h k = refl
min_bit zero (suc (suc y)) h k = absurd (omega arith)
min_bit (suc zero) zero h k = refl
min_bit (suc zero) (suc zero) h k = refl
min_bit (suc zero) (suc (suc y)) h k = absurd (omega arith)
min_bit (suc (suc x)) y h k = absurd (omega arith)

less_bit : (x y : ℕ) → x < 2 → y < 2 → (min x (1 - y) == 1) ≡ ((x == 1) && not (y == 1))
less_bit zero zero h k = refl
less_bit zero (suc zero) h k = refl
less_bit zero (suc (suc y)) h k = absurd (omega arith)
less_bit (suc zero) zero h k = refl
less_bit (suc zero) (suc zero) h k = refl
less_bit (suc zero) (suc (suc y)) h k = absurd (omega arith)
less_bit (suc (suc x)) y h k = absurd (omega arith)

pub or_bit : (a b k : ℕ) → (bit_at (bit_or a b) k == 1) ≡ ((bit_at a k == 1) || (bit_at b k == 1))
or_bit a b k = ap (λ (n : ℕ). n == 1) (bit_at_or a b k) ∙ max_bit (bit_at a k) (bit_at b k) (bit_at-lt a k) (bit_at-lt b k)

pub and_bit : (a b k : ℕ) → (bit_at (bit_and a b) k == 1) ≡ ((bit_at a k == 1) && (bit_at b k == 1))
and_bit a b k = ap (λ (n : ℕ). n == 1) (bit_at_and a b k) ∙ min_bit (bit_at a k) (bit_at b k) (bit_at-lt a k) (bit_at-lt b k)

pub without_bit : (a b k : ℕ) → b < 2 ^ 64 → k < 64 → (bit_at (bit_and a (bit_not w64 b)) k == 1) ≡ ((bit_at a k == 1) && not (bit_at b k == 1))
without_bit a b k small within =
    ap (λ (n : ℕ). n == 1) (bit_at_and a (bit_not w64 b) k ∙ ap (λ (n : ℕ). min (bit_at a k) n) (bit_at_not w64 b k small within))
    ∙ less_bit (bit_at a k) (bit_at b k) (bit_at-lt a k) (bit_at-lt b k)

pub with_bit : (a bit : ℕ) → bit < 64 → (k : ℕ) → (bit_at (bit_or a (1 * 2 ^ bit % 18446744073709551616)) k == 1) ≡ cond (k == bit) true (bit_at a k == 1)
with_bit a bit within k = go (k == bit) refl
  where
    go : (x : Bool) → (k == bit) ≡ x → (bit_at (bit_or a (1 * 2 ^ bit % 18446744073709551616)) k == 1) ≡ cond x true (bit_at a k == 1)
    go true e = subst (λ (j : ℕ). (bit_at (bit_or a (1 * 2 ^ bit % 18446744073709551616)) j == 1) ≡ true) (sym (eqb-true k bit e)) (ap (λ (x : ℕ). x == 1) (bit_at_set_same w64 a bit within))
    go false e = ap (λ (x : ℕ). x == 1) (bit_at_set_other w64 a bit within k (eqb-false k bit e))

pub ones_bit : (count : ℕ) → count ≤ 64 → (k : ℕ) → (bit_at (18446744073709551615 / 2 ^ (64 - count)) k == 1) ≡ nat_lt k count
ones_bit count within k =
    let shifted = ones_shr 64 (64 - count) (omega arith) in
    let back : 64 - (64 - count) ≡ count = omega arith in
    ap (λ (n : ℕ). bit_at n k == 1) (shifted ∙ ap (λ (n : ℕ). 2 ^ n - 1) back) ∙ go (nat_lt k count) refl
  where
    go : (x : Bool) → nat_lt k count ≡ x → (bit_at (2 ^ count - 1) k == 1) ≡ nat_lt k count
    go true e = let lt : k < count = grind (arith, nat_tests) in ap (λ (x : ℕ). x == 1) (bit_at_ones count k lt) ∙ sym e
    go false e = let le : count ≤ k = grind (arith, nat_tests) in ap (λ (x : ℕ). x == 1) (bit_at_ones_above count k le) ∙ sym e

-- a word that is shifted down begins with a later bit
pub shifted_bit : (a from i : ℕ) → bit_at (a / 2 ^ from) i ≡ bit_at a (from + i)
shifted_bit a from i = ap (λ (n : ℕ). n % 2) (div-div-eq-div-mul a (2 ^ from) (2 ^ i) ∙ ap (λ (n : ℕ). a / n) (sym (pow-add 2 from i)))

-- no bit of a word stands from one on
pub none_from : (a from : ℕ) → a / 2 ^ from ≡ 0 → (k : ℕ) → from ≤ k → (bit_at a k == 1) ≡ false
none_from a from e k h =
    let at : k ≡ from + (k - from) = omega arith in
    ap (λ (n : ℕ). bit_at a n == 1) at ∙ ap (λ (n : ℕ). n == 1) (sym (shifted_bit a from (k - from)) ∙ ap (λ (n : ℕ). bit_at n (k - from)) e ∙ bit_at-zero (k - from))

-- the lowest bit from one on
pub record IsLowest (a from m : ℕ) : Type 0 where
  pub from_on : from ≤ m
  pub within : m < 64
  pub set : (bit_at a m == 1) ≡ true
  pub first : (k : ℕ) → from ≤ k → k < m → (bit_at a k == 1) ≡ false

pub lowest_is : (a from : ℕ) → a < 2 ^ 64 → 0 < a / 2 ^ from → IsLowest a from (from + trailing_zeros w64 (a / 2 ^ from))
lowest_is a from small some =
    let rest = a / 2 ^ from in
    let less : rest < 2 ^ 64 = omega (arith, div-le_self a (2 ^ from), small) in
    let t = trailing_zeros w64 rest in
    let known = bit_at-trailing_zeros w64 rest some less in
    let set : (bit_at a (from + t) == 1) ≡ true = ap (λ (n : ℕ). n == 1) (sym (shifted_bit a from t) ∙ known.1) in
    record {
      from_on = omega arith;
      within = within_word a (from + t) small (sym (shifted_bit a from t) ∙ known.1);
      set = set;
      first = λ k h l.
          let at : k ≡ from + (k - from) = omega arith in
          let less_t : k - from < t = omega arith in
          ap (λ (n : ℕ). bit_at a n == 1) at ∙ ap (λ (n : ℕ). n == 1) (sym (shifted_bit a from (k - from)) ∙ known.2 (k - from) less_t);
    }
  where
    within_word : (a m : ℕ) → a < 2 ^ 64 → bit_at a m ≡ 1 → m < 64
    within_word a m s e = go (nat_lt m 64) refl
      where
        go : (x : Bool) → nat_lt m 64 ≡ x → m < 64
        go true f = grind (arith, nat_tests)
        go false f = let le : 64 ≤ m = grind (arith, nat_tests) in let z = bit_at_above a 64 m s le in absurd (omega arith)

-- a word has no bit from 64 on
pub no_high_bit : (a k : ℕ) → a < 2 ^ 64 → 64 ≤ k → (bit_at a k == 1) ≡ false
no_high_bit a k small l = ap (λ (n : ℕ). n == 1) (bit_at_above a 64 k small l)

pub without_any_bit : (a b k : ℕ) → a < 2 ^ 64 → b < 2 ^ 64 → (bit_at (bit_and a (bit_not w64 b)) k == 1) ≡ ((bit_at a k == 1) && not (bit_at b k == 1))
without_any_bit a b k small_a small_b = go (nat_lt k 64) refl
  where
    go : (x : Bool) → nat_lt k 64 ≡ x → (bit_at (bit_and a (bit_not w64 b)) k == 1) ≡ ((bit_at a k == 1) && not (bit_at b k == 1))
    go true e = without_bit a b k small_b (grind (arith, nat_tests))
    go false e =
        let le : 64 ≤ k = grind (arith, nat_tests) in
        let none = no_high_bit a k small_a le in
        and_bit a (bit_not w64 b) k ∙ ap (λ (x : Bool). x && (bit_at (bit_not w64 b) k == 1)) none ∙ ap (λ (x : Bool). x && not (bit_at b k == 1)) (sym none)

-- a word that is not 0 has a bit
pub some_bit : (a : ℕ) → a < 2 ^ 64 → 0 < a → (k : ℕ) × (k < 64) × ((bit_at a k == 1) ≡ true)
some_bit a small some =
    let whole : a / 2 ^ 0 ≡ a = div-one a in
    let found = lowest_is a 0 small (subst (λ (n : ℕ). 0 < n) (sym whole) some) in
    (0 + trailing_zeros w64 (a / 2 ^ 0), found.within, found.set)

pub no_bit_of_zero : (k : ℕ) → (bit_at 0 k == 1) ≡ false
no_bit_of_zero k = ap (λ (n : ℕ). n == 1) (bit_at-zero k)

-- ---- spans of bits

bits_before : (lt same none le : Bool) → none ≡ false → (same ≡ true → (lt ≡ true) × (le ≡ true)) → (same ≡ false → lt ≡ not le) → (lt && not (cond same true none)) ≡ not le
bits_before true true z true e there other = refl
bits_before true true z false e there other = absurd (true≢false (sym (there refl).1))
bits_before false true z le e there other = absurd (true≢false (sym (there refl).0))
bits_before lt false true le e there other = absurd (true≢false e)
bits_before true false false le e there other = other refl
bits_before false false false le e there other = other refl

lt_same : (k first : ℕ) → k ≡ first → nat_lt k (first + 1) ≡ true
lt_same k first h = grind (arith, nat_tests)

le_same : (k first : ℕ) → k ≡ first → nat_le first k ≡ true
le_same k first h = grind (arith, nat_tests)

lt_other : (k first : ℕ) → k ≢ first → nat_lt k (first + 1) ≡ not (nat_le first k)
lt_other k first off = go (nat_le first k) refl
  where
    go : (x : Bool) → nat_le first k ≡ x → nat_lt k (first + 1) ≡ not x
    go true e = let le : first ≤ k = grind (arith, nat_tests) in let ge : first + 1 ≤ k = omega arith in grind (arith, nat_tests)
    go false e = let lt : k < first = grind (arith, nat_tests) in let less : k < first + 1 = omega arith in grind (arith, nat_tests)

lt_next : (k last : ℕ) → nat_lt k (last + 1) ≡ nat_le k last
lt_next k last = go (nat_le k last) refl
  where
    go : (x : Bool) → nat_le k last ≡ x → nat_lt k (last + 1) ≡ x
    go true e = let le : k ≤ last = grind (arith, nat_tests) in let less : k < last + 1 = omega arith in grind (arith, nat_tests)
    go false e = let lt : last < k = grind (arith, nat_tests) in let ge : last + 1 ≤ k = omega arith in grind (arith, nat_tests)

turned_and : (a b : Bool) → (a && not (not b)) ≡ (b && a)
turned_and true true = refl
turned_and true false = refl
turned_and false true = refl
turned_and false false = refl

pub span_bit : (first last k : ℕ) → (nat_lt k (last + 1) && not (nat_lt k (first + 1) && not (cond (k == first) true (bit_at 0 k == 1)))) ≡ (nat_le first k && nat_le k last)
span_bit first last k =
    let before = bits_before (nat_lt k (first + 1)) (k == first) (bit_at 0 k == 1) (nat_le first k) (no_bit_of_zero k)
    (λ e. (lt_same k first (eqb-true k first e), le_same k first (eqb-true k first e))) (λ e. lt_other k first (eqb-false k first e)) in
    ap (λ (b : Bool). nat_lt k (last + 1) && not b) before ∙ turned_and (nat_lt k (last + 1)) (nat_le first k) ∙ ap (λ (b : Bool). nat_le first k && b) (lt_next k last)

-- no position stands from a first to a last one before it
no_span : (first last k : ℕ) → last < first → (nat_le first k && nat_le k last) ≡ false
no_span first last k less = go (nat_le first k) (nat_le k last) refl refl
  where
    go : (x y : Bool) → nat_le first k ≡ x → nat_le k last ≡ y → (x && y) ≡ false
    go false y e f = refl
    go true false e f = refl
    go true true e f = let a : first ≤ k = grind (arith, nat_tests) in let b : k ≤ last = grind (arith, nat_tests) in absurd (omega arith)

or_false : (a b : Bool) → b ≡ false → a ≡ (a || b)
or_false true b e = refl
or_false false b e = sym e

pub no_span_bit : (a : Bool) (first last k : ℕ) → last < first → a ≡ (a || (nat_le first k && nat_le k last))
no_span_bit a first last k less = or_false a (nat_le first k && nat_le k last) (no_span first last k less)

-- a span that grows by one position
pub span_grows : (a : Bool) (first at k : ℕ) → first ≤ at → cond (k == at) true (a || (nat_le first k && nat_lt k at)) ≡ (a || (nat_le first k && nat_lt k (at + 1)))
span_grows a first at k le = go (k == at) refl
  where
    or_all : (b : Bool) → b ≡ true → true ≡ (a || b)
    or_all b e = grind (arith, nat_tests)

    inside : k ≡ at → (nat_le first k && nat_lt k (at + 1)) ≡ true
    inside e = let one : nat_le first k ≡ true = grind (arith, nat_tests) in let two : nat_lt k (at + 1) ≡ true = grind (arith, nat_tests) in rw (one, two) refl

    other : k ≢ at → nat_lt k at ≡ nat_lt k (at + 1)
    other off = by (nat_lt k at) refl
      where
        by : (x : Bool) → nat_lt k at ≡ x → x ≡ nat_lt k (at + 1)
        by true e = let lt : k < at = grind (arith, nat_tests) in let less : k < at + 1 = omega arith in grind (arith, nat_tests)
        by false e = let ge : at ≤ k = grind (arith, nat_tests) in let more : at + 1 ≤ k = omega arith in grind (arith, nat_tests)

    go : (x : Bool) → (k == at) ≡ x → cond x true (a || (nat_le first k && nat_lt k at)) ≡ (a || (nat_le first k && nat_lt k (at + 1)))
    go true e = or_all (nat_le first k && nat_lt k (at + 1)) (inside (eqb-true k at e))
    go false e = ap (λ (b : Bool). a || (nat_le first k && b)) (other (eqb-false k at e))

pub span_begins : (a : Bool) (first k : ℕ) → a ≡ (a || (nat_le first k && nat_lt k first))
span_begins a first k = or_false a (nat_le first k && nat_lt k first) (go (nat_le first k) (nat_lt k first) refl refl)
  where
    go : (x y : Bool) → nat_le first k ≡ x → nat_lt k first ≡ y → (x && y) ≡ false
    go false y e f = refl
    go true false e f = refl
    go true true e f = let a : first ≤ k = grind (arith, nat_tests) in let b : k < first = grind (arith, nat_tests) in absurd (omega arith)

pub span_ends : (first last at k : ℕ) → last + 1 ≤ at → at ≤ max first (last + 1) → (nat_le first k && nat_lt k at) ≡ (nat_le first k && nat_le k last)
span_ends first last at k past few = go (nat_le first k) refl
  where
    within : first ≤ k → nat_lt k at ≡ nat_le k last
    within h = by (nat_le k last) refl
      where
        by : (x : Bool) → nat_le k last ≡ x → nat_lt k at ≡ x
        by true e = let le : k ≤ last = grind (arith, nat_tests) in let less : k < at = omega arith in grind (arith, nat_tests)
        by false e =
            let lt : last < k = grind (arith, nat_tests) in
            let ge : at ≤ k = omega arith in
            grind (arith, nat_tests)

    go : (x : Bool) → nat_le first k ≡ x → (x && nat_lt k at) ≡ (x && nat_le k last)
    go false e = refl
    go true e = within (grind (arith, nat_tests))
