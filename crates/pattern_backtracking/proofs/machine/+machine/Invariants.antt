use Rattle.std.proofs.Common.{◌≡◌, ◌≤◌, ◌+◌, ◌*◌}
use Rattle.pattern_trees.specs.Nodes.{node_of}
use Rattle.pattern_backtracking.specs.Counting.{within, whole_trace}
use Rattle.pattern_backtracking.specs.Piles.{state, pile_trace}
use Rattle.pattern_backtracking.proofs.machine.+machine.Given as goal

-- a search of n steps calls a step with n - 1 left, which may search with no more
abbrev pub decreases-first_result : goal.decreases-first_result
decreases-first_result l = 3 * l.steps.now

abbrev pub decreases-enter : goal.decreases-enter
decreases-enter l = 3 * l.steps.now + 1

abbrev pub decreases-take : goal.decreases-take
decreases-take l = 3 * l.steps.now + 2

abbrev pub invariant-first_result-loop-frame : goal.invariant-first_result-loop-frame
invariant-first_result-loop-frame l = record {
  rest : within l.fn.steps (whole_trace (node_of l.fn.node) l.fn.ahead l.s (state l.fn.place l.fn.captures.items)) ≡ within l.steps (pile_trace l.s l.frames.items);
  spent : l.steps ≤ l.fn.steps;
}

abbrev pub decreases-first_result-loop-frame : goal.decreases-first_result-loop-frame
decreases-first_result-loop-frame l = l.steps
