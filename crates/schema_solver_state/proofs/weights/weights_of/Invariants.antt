use Rattle.std.proofs.Common.{◌≡◌, length}
use Rattle.schema_solver_state.specs.Following.{Covers}
use Rattle.schema_solver_state.proofs.weights.weights_of.Given as goal

abbrev pub invariant-loop : goal.invariant-loop
invariant-loop g l = record { each : length l.weights.items ≡ length l.nodes; covers : Covers l.nodes l.weights.items }
