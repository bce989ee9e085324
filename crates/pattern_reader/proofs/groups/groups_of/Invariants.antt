use Rattle.std.proofs.Common.{◌≡◌, ◌++◌, length}
use Rattle.pattern_reader.specs.Groups.{names_of, groups_from, groups_of}
use Rattle.pattern_reader.proofs.groups.groups_of.Given as goal

abbrev pub invariant-loop-rest : goal.invariant-loop-rest
invariant-loop-rest l = names_of l.out.items ++ groups_from l.extended l.place l.rest ≡ groups_of l.extended l.text

abbrev pub decreases-loop-rest : goal.decreases-loop-rest
decreases-loop-rest l = length l.rest
