use Rattle.std.proofs.Common.{◌≡◌, length}
use Rattle.pattern_reader.specs.Groups.{names_of, has_names}
use Rattle.pattern_reader.proofs.groups.has_names.Given as goal

abbrev pub invariant-loop-rest : goal.invariant-loop-rest
invariant-loop-rest l = has_names (names_of l.rest) ≡ has_names (names_of l.names)

abbrev pub decreases-loop-rest : goal.decreases-loop-rest
decreases-loop-rest l = length l.rest
