use Rattle.std.proofs.Common.{◌≡◌, length}
use Rattle.pattern_characters.specs.Sets.{merged}
use Rattle.pattern_characters.proofs.spans.push_merged.Given as goal

abbrev pub invariant-loop-rest : goal.invariant-loop-rest
invariant-loop-rest l = merged l.low l.high l.rest ≡ merged l.fn.low l.fn.high l.spans

abbrev pub decreases-loop-rest : goal.decreases-loop-rest
decreases-loop-rest l = length l.rest
