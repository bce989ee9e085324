use Rattle.std.proofs.Common.{◌≡◌, ◌++◌, length}
use Rattle.pattern_characters.specs.Sets.{gaps}
use Rattle.pattern_characters.proofs.spans.gaps.Given as goal

abbrev pub invariant-loop-rest : goal.invariant-loop-rest
invariant-loop-rest l = l.out.items ++ gaps l.next l.rest ≡ gaps 0 l.spans

abbrev pub decreases-loop-rest : goal.decreases-loop-rest
decreases-loop-rest l = length l.rest
