use Rattle.std.proofs.Common.{◌≡◌, length}
use Rattle.pattern_characters.specs.Characters as spec
use Rattle.pattern_characters.proofs.characters.digits.Given as goal

abbrev pub invariant-loop-rest : goal.invariant-loop-rest
invariant-loop-rest l = spec.digits l.value l.rest ≡ spec.digits 0 l.text

abbrev pub decreases-loop-rest : goal.decreases-loop-rest
decreases-loop-rest l = length l.rest
