use Rattle.std.proofs.Common.{◌≡◌, length}
use Rattle.pattern_reader.specs.Openings.{modifiers, no_flags}
use Rattle.pattern_reader.proofs.openings.modifiers.Given as goal

abbrev pub invariant-loop-rest : goal.invariant-loop-rest
invariant-loop-rest l = modifiers l.flags l.rest ≡ modifiers no_flags l.text

abbrev pub decreases-loop-rest : goal.decreases-loop-rest
decreases-loop-rest l = length l.rest
