use Rattle.std.proofs.Common.{◌≡◌, ℕ, length}
use Rattle.schema_node_table.specs.ClosedNumbers.{has_weight}
use Rattle.schema_node_table.proofs.node.sharing.keep_shared.Given as goal

abbrev pub invariant-loop-number : goal.invariant-loop-number
invariant-loop-number l = record {
  each : length l.weights.items ≡ length l.initial.weights.items;
  same : (i : ℕ) → has_weight l.weights.items i ≡ has_weight l.initial.weights.items i;
}
