use Rattle.std.proofs.Common.{◌≡◌, length}
use Rattle.schema_node_table.specs.ClosedNumbers.{AreClosed, edges_in, has_weight}
use Rattle.schema_node_table.proofs.node.sharing.weigh_in_turn.Given as goal

abbrev pub invariant-loop-number : goal.invariant-loop-number
invariant-loop-number g l = record { each : length l.weights.items ≡ length l.nodes; closed : AreClosed (edges_in l.nodes) (has_weight l.weights.items) }
