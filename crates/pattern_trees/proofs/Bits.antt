-- The bits of words.
use Rattle.std.proofs.Common.{◌≡◌, ◌<◌, ◌==◌, ◌^◌, ◌*◌, ◌%◌, ℕ, Bool, true, false, cond, ap, refl, subst, sym, w64, bit_or}
use Rattle.std.specs.Int.{bit_at}
use Rattle.std.proofs.lemmas.Bool.{eqb-false, eqb-true}
use Rattle.std.proofs.lemmas.Nat.Bits.{bit_at_set_other, bit_at_set_same}

pub with_bit : (a bit : ℕ) → bit < 64 → (k : ℕ) → (bit_at (bit_or a (1 * 2 ^ bit % 18446744073709551616)) k == 1) ≡ cond (k == bit) true (bit_at a k == 1)
with_bit a bit within k = go (k == bit) refl
  where
    go : (x : Bool) → (k == bit) ≡ x → (bit_at (bit_or a (1 * 2 ^ bit % 18446744073709551616)) k == 1) ≡ cond x true (bit_at a k == 1)
    go true e = subst (λ (j : ℕ). (bit_at (bit_or a (1 * 2 ^ bit % 18446744073709551616)) j == 1) ≡ true) (sym (eqb-true k bit e)) (ap (λ (x : ℕ). x == 1) (bit_at_set_same w64 a bit within))
    go false e = ap (λ (x : ℕ). x == 1) (bit_at_set_other w64 a bit within k (eqb-false k bit e))
