use Rattle.std.proofs.Common.{◌≡◌, length}
use Rattle.pattern_reader.specs.Groups.{same_text}
use Rattle.pattern_reader.proofs.groups.same_text.Given as goal

abbrev pub invariant-loop-one : goal.invariant-loop-one
invariant-loop-one l = same_text l.one l.other ≡ same_text l.fn.one l.fn.other

abbrev pub decreases-loop-one : goal.decreases-loop-one
decreases-loop-one l = length l.one
