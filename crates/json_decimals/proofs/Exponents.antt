-- A power, from 400 down and up, as the exponent of ten that the reader takes.
use Rattle.std.proofs.Common.{◌≡◌, ℕ, suc, ℤ, pos, negsuc, false, true, ◌+◌, ◌-◌, ◌*◌, ◌^◌, ◌<◌, ◌≤◌, inl, inr, ltb, refl, ap, ◌∙◌, arith, w64, SFits}
use Rattle.std.proofs.Math.IntN.{◌-ℤ◌, sub_ℕ}
use Rattle.std.proofs.lemmas.Bool.{cases_lt, lt-ltb, le-ltb}
use Rattle.std.proofs.lemmas.Int.{to_z-of_z, to_z_pos}
use Rattle.std.proofs.lemmas.Nat.{pow-add}
use Rattle.std.specs.Float.{binary64}
use Rattle.fast_float.proofs.ExactLemmas.{ten_to_pos}
use Rattle.fast_float.specs.Rounding.{nearest_to_decimal}
use lib.Ieee.Scale.{round_same}
use mir.Val.{of_z, to_z}
use Rattle.json_decimals.specs.Decimals.{read}

low_power : (k p : ℕ) → p < 400 → nearest_to_decimal binary64 false k (negsuc (400 - suc p)) ≡ read k p
low_power k p less =
    let split : 10 ^ 400 ≡ 10 ^ p * 10 ^ suc (400 - suc p) = (let sum : 400 ≡ p + suc (400 - suc p) = omega arith in ap (λ n. 10 ^ n) sum) ∙ pow-add 10 p (suc (400 - suc p)) in
    round_same binary64 false _ _ _ _ (ten_to_pos (suc (400 - suc p))) (ten_to_pos 400) (joined k (10 ^ p) (10 ^ suc (400 - suc p)) (10 ^ 400) split)
  where
    joined : (k a b c : ℕ) → c ≡ a * b → k * c ≡ k * a * b
    joined k a b c same = omega (arith, ap (λ n. k * n) same)

high_power : (k p : ℕ) → 400 ≤ p → nearest_to_decimal binary64 false k (pos (p - 400)) ≡ read k p
high_power k p more =
    let split : 10 ^ p ≡ 10 ^ (p - 400) * 10 ^ 400 = (let sum : p ≡ p - 400 + 400 = omega arith in ap (λ n. 10 ^ n) sum) ∙ pow-add 10 (p - 400) 400 in
    round_same binary64 false _ _ _ _ (ten_to_pos 0) (ten_to_pos 400) (joined k (10 ^ (p - 400)) (10 ^ 400) (10 ^ p) split)
  where
    joined : (k a b c : ℕ) → c ≡ a * b → k * a * b ≡ k * c * 1
    joined k a b c same = omega (arith, ap (λ n. k * n) same)

-- the exponent as the code reckons it
abbrev pub exponent : ℕ → ℤ
exponent p = to_z w64 (of_z w64 (to_z w64 p -ℤ pos 400))

exponent_is : (p : ℕ) (z : ℤ) → p ≤ 800 → sub_ℕ p 400 ≡ z → SFits w64 z → exponent p ≡ z
exponent_is p z few same fits =
    let large : p < 2 ^ 63 = omega arith in
    ap (λ n. to_z w64 (of_z w64 (n -ℤ pos 400))) (to_z_pos w64 p large) ∙ ap (λ n. to_z w64 (of_z w64 n)) same ∙ to_z-of_z w64 z fits

pub reads_at : (k p : ℕ) → p ≤ 800 → nearest_to_decimal binary64 false k (exponent p) ≡ read k p
reads_at k p few =
    elim (cases_lt p 400) [
      | inl less ↦
          let below : ltb p 400 ≡ true = lt-ltb p 400 less in
          let same : sub_ℕ p 400 ≡ negsuc (400 - suc p) = rw below refl in
          ap (nearest_to_decimal binary64 false k) (exponent_is p _ few same (record { sfits = omega arith })) ∙ low_power k p less
      | inr more ↦
          let above : ltb p 400 ≡ false = le-ltb p 400 more in
          let same : sub_ℕ p 400 ≡ pos (p - 400) = rw above refl in
          ap (nearest_to_decimal binary64 false k) (exponent_is p _ few same (record { sfits = omega arith })) ∙ high_power k p more
    ]
