use Rattle.std.proofs.Common.{◌≡◌, ◌++◌, length}
use Rattle.pattern_characters.specs.Sets.{inserted}
use Rattle.pattern_characters.proofs.spans.push_before.Given as goal

abbrev pub invariant-loop-rest : goal.invariant-loop-rest
invariant-loop-rest l = l.out.items ++ inserted l.low l.high l.rest ≡ l.fn.out.items ++ inserted l.low l.high l.spans

abbrev pub decreases-loop-rest : goal.decreases-loop-rest
decreases-loop-rest l = length l.rest
