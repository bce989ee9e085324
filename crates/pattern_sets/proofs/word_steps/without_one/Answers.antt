use Rattle.std.proofs.Common.{Bool, ◌&&◌, ◌∙◌, ap, not}
use Rattle.pattern_sets.specs.Images.{in_word}
use Rattle.pattern_sets.proofs.Leading.{is_same}
use Rattle.pattern_rows.proofs.Bits.{no_bit_of_zero}
use Rattle.pattern_sets.proofs.word_steps.without_one.Goals as goal

pub returns : goal.returns
returns c =
    record {
      rest = λ k.
          c.without.ensures.bits k ∙ ap (λ (b : Bool). in_word c.args.word k && not b) (c.with.ensures.bits k ∙ is_same k c.args.position (in_word 0 k) (no_bit_of_zero k));
    }
