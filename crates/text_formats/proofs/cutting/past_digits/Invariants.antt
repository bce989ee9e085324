use Rattle.std.proofs.Common.{◌≡◌, length}
use Rattle.text_formats.specs.Cutting as spec
use Rattle.text_formats.proofs.cutting.past_digits.Given as goal

abbrev pub invariant-loop-rest : goal.invariant-loop-rest
invariant-loop-rest l = spec.past_digits l.text ≡ spec.past_digits l.rest

abbrev pub decreases-loop-rest : goal.decreases-loop-rest
decreases-loop-rest l = length l.rest
