use Rattle.std.proofs.Common.{◌≡◌, length}
use Rattle.schema_node_table.specs.ClosedNumbers.{AreClosed, edges_in, has_weight}
use Rattle.schema_node_table.proofs.node.sharing.weigh_rounds.Given as goal

abbrev pub invariant-loop-start : goal.invariant-loop-start
invariant-loop-start g l = record { each : length l.weights.items ≡ length l.nodes; closed : AreClosed (edges_in l.nodes) (has_weight l.weights.items) }
