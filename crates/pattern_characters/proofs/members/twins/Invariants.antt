use Rattle.std.proofs.Common.{◌≡◌, ◌++◌, length}
use Rattle.pattern_characters.specs.Sets.{twins}
use Rattle.pattern_characters.proofs.members.twins.Given as goal

abbrev pub invariant-loop-rest : goal.invariant-loop-rest
invariant-loop-rest l = l.out.items ++ twins l.spans l.rest ≡ twins l.spans l.pairs

abbrev pub decreases-loop-rest : goal.decreases-loop-rest
decreases-loop-rest l = length l.rest
