use Rattle.std.proofs.Common.{map, take}
use Rattle.theory_definitions.specs.Guarded.{node_edges, node_these}
use Rattle.schema_solver_state.specs.Following.{Counts}
use Rattle.schema_node_table.specs.NodeViews.{entry_of}
use Rattle.schema_solver_state.proofs.followed.count_entries.Given as goal

abbrev pub invariant-loop-entry : goal.invariant-loop-entry
invariant-loop-entry g l = Counts (node_edges (node_these (map entry_of (take l.entry-index l.entries)))) l.initial.ways.items l.ways.items
