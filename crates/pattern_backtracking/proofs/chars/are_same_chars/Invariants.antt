use Rattle.std.proofs.Common.{◌≡◌, ◌+◌, ◌-◌}
use Rattle.pattern_trees.specs.Matching.{same_chars}
use Rattle.pattern_backtracking.proofs.chars.are_same_chars.Given as goal

abbrev pub invariant-loop-k : goal.invariant-loop-k
invariant-loop-k l = same_chars l.count l.s l.i l.j ≡ same_chars (l.count - l.k) l.s (l.i + l.k) (l.j + l.k)
