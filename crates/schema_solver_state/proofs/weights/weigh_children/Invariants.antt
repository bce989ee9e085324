use Rattle.std.proofs.Common.{◌≡◌, take}
use Rattle.std.specs.Prelude.{min}
use Rattle.schema_solver_state.specs.Following.{child_edges, edges_weight}
use Rattle.schema_solver_state.proofs.weights.weigh_children.Given as goal

abbrev pub invariant-loop-child : goal.invariant-loop-child
invariant-loop-child l = l.weight ≡ min 255 (edges_weight l.weights (child_edges (take l.child-index l.children)))
