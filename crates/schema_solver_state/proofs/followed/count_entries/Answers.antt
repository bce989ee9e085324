use Rattle.std.proofs.Common.{arith}
use Rattle.schema_solver_state.proofs.Ways.{counts_entry}
use Rattle.schema_solver_state.proofs.followed.count_entries.Goals as goal

pub loop-entry-preserved : goal.loop-entry-preserved
loop-entry-preserved g c = counts_entry c.args.entries.now c.loop-entry.entry-index c.entry-item.result (omega arith) c.entry-item.is c.loop-entry.invariant c.count_entry.ensures.counted
