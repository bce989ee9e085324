use Rattle.std.proofs.Common.{arith}
use Rattle.schema_solver_state.proofs.Weighing.{weighs_entry}
use Rattle.schema_solver_state.proofs.weights.weigh_entries.Goals as goal

pub loop-entry-preserved : goal.loop-entry-preserved
loop-entry-preserved g c =
    weighs_entry c.args.weights.now c.args.entries.now c.loop-entry.entry-index c.entry-item.result c.loop-entry.weight c.weigh_entry.result c.saturating_add-weight.result (omega arith) c.entry-item.is c.loop-entry.invariant c.weigh_entry.ensures.weight c.saturating_add-weight.ensures
