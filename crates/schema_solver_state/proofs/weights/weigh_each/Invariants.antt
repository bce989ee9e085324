use Rattle.std.proofs.Common.{◌≡◌, length}
use Rattle.schema_solver_state.specs.Following.{Covers}
use Rattle.schema_solver_state.proofs.weights.weigh_each.Given as goal

abbrev pub invariant-loop-number : goal.invariant-loop-number
invariant-loop-number g l = record { each : length l.weights.items ≡ length l.nodes; covers : Covers l.nodes l.weights.items }
