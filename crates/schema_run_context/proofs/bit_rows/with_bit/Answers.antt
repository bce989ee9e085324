use Rattle.std.proofs.Common.{◌≡◌, ◌<◌, ◌==◌, ◌^◌, ◌*◌, ◌%◌, ℕ, Bool, true, false, cond, ap, refl, subst, sym, ◌∙◌, w64, bit_and, bit_or}
use Rattle.std.specs.Int.{bit_at, bit_not}
use Rattle.std.proofs.lemmas.Bool.{eqb-false, eqb-true}
use Rattle.std.proofs.lemmas.Nat.Bits.{bit_at_clear_other, bit_at_clear_same, bit_at_set_other, bit_at_set_same}
use Rattle.schema_run_context.proofs.bit_rows.with_bit.Goals as goal

set : (n k : ℕ) (on : Bool) → k < 64 → on ≡ true → (i : ℕ) → i < 64 → (bit_at (bit_or n (1 * 2 ^ k % 18446744073709551616)) i == 1) ≡ cond (k == i) on (bit_at n i == 1)
set n k on l h i m = go (k == i) refl
  where
    go : (x : Bool) → (k == i) ≡ x → (bit_at (bit_or n (1 * 2 ^ k % 18446744073709551616)) i == 1) ≡ cond x on (bit_at n i == 1)
    go true e = subst (λ (j : ℕ). (bit_at (bit_or n (1 * 2 ^ k % 18446744073709551616)) j == 1) ≡ on) (eqb-true k i e) (ap (λ (x : ℕ). x == 1) (bit_at_set_same w64 n k l) ∙ sym h)
    go false e = ap (λ (x : ℕ). x == 1) (bit_at_set_other w64 n k l i (λ f. eqb-false k i e (sym f)))

clear : (n k : ℕ) (on : Bool) → k < 64 → on ≡ false → (i : ℕ) → i < 64 → (bit_at (bit_and n (bit_not w64 (1 * 2 ^ k % 18446744073709551616))) i == 1) ≡ cond (k == i) on (bit_at n i == 1)
clear n k on l h i m = go (k == i) refl
  where
    go : (x : Bool) → (k == i) ≡ x → (bit_at (bit_and n (bit_not w64 (1 * 2 ^ k % 18446744073709551616))) i == 1) ≡ cond x on (bit_at n i == 1)
    go true e = subst (λ (j : ℕ). (bit_at (bit_and n (bit_not w64 (1 * 2 ^ k % 18446744073709551616))) j == 1) ≡ on) (eqb-true k i e) (ap (λ (x : ℕ). x == 1) (bit_at_clear_same w64 n k l) ∙ sym h)
    go false e = ap (λ (x : ℕ). x == 1) (bit_at_clear_other w64 n k l i m (λ f. eqb-false k i e (sym f)))

pub returns-then-on : goal.returns-then-on
returns-then-on c = record { bits = set c.args.word c.args.bit c.args.on c.requires.within c.if-on.true }

pub returns-else-on : goal.returns-else-on
returns-else-on c = record { bits = clear c.args.word c.args.bit c.args.on c.requires.within c.if-on.false }
