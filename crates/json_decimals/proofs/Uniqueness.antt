-- Of the decimals of at most 15 digits, one value at most reads as a normal float.
use Rattle.std.proofs.Common.{◌≡◌, ℕ, ℤ, false, ◌+◌, ◌-◌, ◌*◌, ◌/◌, ◌^◌, ◌<◌, ◌≤◌, T, inl, inr, sym, ap, subst, ◌∙◌, arith, mul-pos, mul-le-mul_right}
use Rattle.std.proofs.lemmas.Bool.{cases_order, cases_lt}
use Rattle.std.proofs.lemmas.Nat.{div-mul-add, pow-add}
use Rattle.fast_float.proofs.ExactLemmas.{ten_to_pos}
use lib.Ieee.{fin, eq, up, down}
use lib.Ieee.Fits.{down_pos}
use Rattle.json_decimals.specs.Decimals.{digits_at, read}
use Rattle.json_decimals.proofs.Closeness.{near_of_reads}

-- the float S and the decimal D, in some unit, are close
pub record IsClose (S D : ℕ) : Type 0 where
  pub lower : 2 ^ 53 * S ≤ 2 ^ 53 * D + S
  pub upper : 2 ^ 53 * D ≤ 2 ^ 53 * S + S

-- of at most 15 digits, the digits are the float to the nearest whole number
nearest_digits : (S T k : ℕ) → 0 < T → k ≤ 10 ^ 15 → IsClose S (k * T) → (2 * S + T) / (2 * T) ≡ k
nearest_digits S T k some few close =
    let most : k * T ≤ 10 ^ 15 * T = mul-le-mul_right T few in
    let lower = close.lower in
    let upper = close.upper in
    let from : k * (2 * T) ≤ 2 * S + T = omega arith in
    let below : 2 * S + T - k * (2 * T) < 2 * T = omega arith in
    let whole : 2 * S + T ≡ k * (2 * T) + (2 * S + T - k * (2 * T)) = omega arith in
    ap (λ n. n / (2 * T)) whole ∙ div-mul-add k (2 * T) (2 * S + T - k * (2 * T)) below

no_more : (S T k l : ℕ) → 0 < T → k ≤ 10 ^ 15 → IsClose S (k * T) → IsClose S (l * T) → k < l → ⊥
no_more S T k l some few close other less =
    let most : k * T ≤ 10 ^ 15 * T = mul-le-mul_right T few in
    let next : (k + 1) * T ≤ l * T = mul-le-mul_right T (let h : k + 1 ≤ l = omega arith in h) in
    let lower = close.lower in
    let upper = other.upper in
    omega arith

no_less : (S T k l : ℕ) → 0 < T → k ≤ 10 ^ 15 → IsClose S (k * T) → IsClose S (l * T) → l < k → ⊥
no_less S T k l some few close other less =
    let most : k * T ≤ 10 ^ 15 * T = mul-le-mul_right T few in
    let next : (l + 1) * T ≤ k * T = mul-le-mul_right T (let h : l + 1 ≤ k = omega arith in h) in
    let lower = other.lower in
    let upper = close.upper in
    let same = close.lower in
    omega arith

one_close : (S T k l : ℕ) → 0 < T → k ≤ 10 ^ 15 → IsClose S (k * T) → IsClose S (l * T) → k ≡ l
one_close S T k l some few close other =
    elim (cases_order k l) [
      | inl same ↦ same
      | inr differ ↦ elim differ [ inl less ↦ absurd (no_more S T k l some few close other less) | inr more ↦ absurd (no_less S T k l some few close other more) ]
    ]

turned : (k t y : ℕ) → k * t * y ≡ k * (y * t)
turned k t y = omega arith

-- a normal float, as a fraction m * up e / down e
module _ (m : ℕ) (e : ℤ) (normal : 2 ^ 52 * down e ≤ m * up e * 2 ^ 1074) where
  unit_pos : (p : ℕ) → 0 < down e * 10 ^ p
  unit_pos p = mul-pos (down_pos e) (ten_to_pos p)

  close : (k p : ℕ) → T (eq (read k p) (fin false m e)) → IsClose (m * up e * 10 ^ 400) (k * (down e * 10 ^ p))
  close k p reads =
      let near = near_of_reads (k * 10 ^ p) (10 ^ 400) m e (ten_to_pos 400) reads normal in
      subst (IsClose (m * up e * 10 ^ 400)) (turned k (10 ^ p) (down e)) (record { lower = near.0; upper = near.1 })

  -- the digits that read as the float are those that the definition asks for
  pub digits_are : (k p : ℕ) → k ≤ 10 ^ 15 → T (eq (read k p) (fin false m e)) → digits_at (fin false m e) p ≡ k
  digits_are k p few reads = nearest_digits (m * up e * 10 ^ 400) (down e * 10 ^ p) k (unit_pos p) few (close k p reads)

  at_one_unit : (k p l d : ℕ) → k ≤ 10 ^ 15 → T (eq (read k p) (fin false m e)) → T (eq (read l (p + d)) (fin false m e)) → k * 10 ^ p ≡ l * 10 ^ (p + d)
  at_one_unit k p l d few reads others =
      let split : l * (down e * 10 ^ (p + d)) ≡ l * 10 ^ d * (down e * 10 ^ p) = omega (arith, ap (λ t. l * (down e * t)) (pow-add 10 p d)) in
      let same : k ≡ l * 10 ^ d = one_close (m * up e * 10 ^ 400) (down e * 10 ^ p) k (l * 10 ^ d) (unit_pos p) few (close k p reads) (subst (IsClose (m * up e * 10 ^ 400)) split (close l (p + d) others)) in
      omega (arith, ap (λ n. n * 10 ^ p) same, ap (λ t. l * t) (pow-add 10 p d))

  -- two decimals of at most 15 digits that read as the float are one number
  pub same_decimal : (k p l q : ℕ) → k ≤ 10 ^ 15 → l ≤ 10 ^ 15 → T (eq (read k p) (fin false m e)) → T (eq (read l q) (fin false m e)) → k * 10 ^ p ≡ l * 10 ^ q
  same_decimal k p l q few others reads read_too =
      elim (cases_lt p q) [
        | inl less ↦
            let up : q ≡ p + (q - p) = omega arith in
            at_one_unit k p l (q - p) few reads (subst (λ n. T (eq (read l n) (fin false m e))) up read_too) ∙ ap (λ n. l * 10 ^ n) (sym up)
        | inr more ↦
            let up : p ≡ q + (p - q) = omega arith in
            sym (at_one_unit l q k (p - q) others read_too (subst (λ n. T (eq (read k n) (fin false m e))) up reads) ∙ ap (λ n. k * 10 ^ n) (sym up))
      ]
