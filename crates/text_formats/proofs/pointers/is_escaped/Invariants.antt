use Rattle.std.proofs.Common.{◌≡◌, length}
use Rattle.text_formats.specs.Pointers as spec
use Rattle.text_formats.proofs.pointers.is_escaped.Given as goal

abbrev pub invariant-loop-rest : goal.invariant-loop-rest
invariant-loop-rest l = spec.is_escaped l.text ≡ spec.is_escaped l.rest

abbrev pub decreases-loop-rest : goal.decreases-loop-rest
decreases-loop-rest l = length l.rest
