use Rattle.std.proofs.Common.{take}
use Rattle.schema_solver_state.specs.Following.{Counts, table_edges}
use Rattle.schema_solver_state.proofs.followed.count_ways.Given as goal

abbrev pub invariant-loop-number : goal.invariant-loop-number
invariant-loop-number g l = Counts (table_edges (take l.number l.nodes)) l.initial.ways.items l.ways.items
