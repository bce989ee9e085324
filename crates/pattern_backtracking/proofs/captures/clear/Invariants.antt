use Rattle.std.proofs.Common.{◌≡◌, ◌+◌, ◌-◌}
use Rattle.pattern_trees.specs.Matching.{cleared}
use Rattle.pattern_backtracking.proofs.captures.clear.Given as goal

abbrev pub invariant-loop-k : goal.invariant-loop-k
invariant-loop-k l = cleared l.count l.first l.initial.captures.items ≡ cleared (l.count - l.k) (l.first + l.k) l.captures.items
