use Rattle.std.proofs.Common.{take}
use Rattle.schema_solver_state.specs.Following.{Counts, child_edges}
use Rattle.schema_solver_state.proofs.followed.count_children.Given as goal

abbrev pub invariant-loop-child : goal.invariant-loop-child
invariant-loop-child l = Counts (child_edges (take l.child-index l.children)) l.initial.ways.items l.ways.items
