use Rattle.std.proofs.Common.{ℕ, ◌≡◌, ◌∙◌, ap, arith}
use Rattle.std.proofs.lemmas.Bool.Decides.{nat_tests}
use Rattle.pattern_rows.proofs.Bits.{no_bit_of_zero}
use Rattle.pattern_sets.specs.Images.{in_word}
use Rattle.pattern_sets.proofs.Leading.{is_same}
use Rattle.pattern_sets.proofs.word_steps.is_only.Goals as goal

pub returns : goal.returns
returns c =
    let one = c.with.result in
    record {
      only = λ h k.
          let same : c.args.word ≡ one = grind (arith, nat_tests) in
          ap (λ (w : ℕ). in_word w k) same ∙ c.with.ensures.bits k ∙ is_same k c.args.position (in_word 0 k) (no_bit_of_zero k);
    }
