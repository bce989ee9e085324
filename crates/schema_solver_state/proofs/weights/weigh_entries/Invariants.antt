use Rattle.std.proofs.Common.{◌≡◌, map, take}
use Rattle.std.specs.Prelude.{min}
use Rattle.theory_definitions.specs.Guarded.{node_edges, node_these}
use Rattle.schema_node_table.specs.NodeViews.{entry_of}
use Rattle.schema_solver_state.specs.Following.{edges_weight}
use Rattle.schema_solver_state.proofs.weights.weigh_entries.Given as goal

abbrev pub invariant-loop-entry : goal.invariant-loop-entry
invariant-loop-entry g l = l.weight ≡ min 255 (edges_weight l.weights (node_edges (node_these (map entry_of (take l.entry-index l.entries)))))
