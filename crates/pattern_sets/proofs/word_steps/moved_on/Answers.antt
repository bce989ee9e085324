use Rattle.std.proofs.Common.{ℕ, suc, ◌≡◌, ◌≢◌, ◌+◌, ◌*◌, ◌/◌, ◌%◌, ◌<◌, ◌==◌, ◌∙◌, ap, arith, false}
use Rattle.std.specs.Int.{bit_at}
use Rattle.std.proofs.lemmas.Bool.{eqb-false}
use Rattle.std.proofs.lemmas.Nat.Bits.{bit_at-suc, bit_at_lowest}
use Rattle.pattern_sets.proofs.word_steps.moved_on.Goals as goal

-- a word without its last position can be doubled
has_room : (word : ℕ) → word < 18446744073709551616 → (bit_at word 63 == 1) ≡ false → word < 9223372036854775808
has_room word fits none = let digit : word / 9223372036854775808 % 2 ≢ 1 = eqb-false (bit_at word 63) 1 none in omega arith

pub returns : goal.returns
returns c =
    let word = c.args.word in
    let room = has_room word (omega arith) c.requires.room in
    let whole : word * 2 % 18446744073709551616 ≡ word * 2 = omega arith in
    let even : word * 2 % 2 ≡ 0 = omega arith in
    let half : word * 2 / 2 ≡ word = omega arith in
    record {
      none = ap (λ (n : ℕ). bit_at n 0 == 1) whole ∙ ap (λ (n : ℕ). n == 1) (bit_at_lowest (word * 2) ∙ even);
      moved = λ k.
          let after : k + 1 ≡ suc k = omega arith in
          ap (λ (n : ℕ). bit_at n (k + 1) == 1) whole ∙ ap (λ (n : ℕ). n == 1) (ap (bit_at (word * 2)) after ∙ bit_at-suc (word * 2) k ∙ ap (λ (n : ℕ). bit_at n k) half);
    }
