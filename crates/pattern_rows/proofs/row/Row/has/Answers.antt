use Rattle.std.proofs.Common.{ℕ, ap, ◌∙◌, ◌==◌, ◌%◌}
use Rattle.std.specs.Int.{bit_at}
use Rattle.std.proofs.lemmas.Nat.Bits.{shr_and_one}
use Rattle.pattern_rows.specs.Rows.{has}
use Rattle.pattern_rows.proofs.row.Row.has.Goals as goal

pub returns : goal.returns
unfolding has
returns c = record {
  has =
      ap (λ (n : ℕ). n == 1) (shr_and_one c.word.result (c.args.position % 64))
      ∙ ap (λ (w : ℕ). bit_at w (c.args.position % 64) == 1) c.word.ensures.word;
}
