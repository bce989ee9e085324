use Rattle.std.proofs.Common.{◌≡◌, ◌+◌, ◌-◌, length}
use Rattle.pattern_trees.specs.Nodes.{node_of}
use Rattle.pattern_backtracking.specs.Counting.{decided, decided_from}
use Rattle.pattern_backtracking.proofs.search.count_down.Given as goal

abbrev pub invariant-loop-place : goal.invariant-loop-place
invariant-loop-place l = decided (node_of l.tree) l.groups l.s l.limit ≡ decided_from (node_of l.tree) l.groups l.s (length l.s + 1 - l.place) l.place l.steps
