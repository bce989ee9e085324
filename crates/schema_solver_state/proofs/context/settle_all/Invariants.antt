use Rattle.std.proofs.Common.{◌*◌, take}
use Rattle.schema_run_context.specs.Progress.{row_words}
use Rattle.schema_run_context.specs.Rows.{AreWide}
use Rattle.schema_solver_state.specs.ContextViews.{SettlesPairs}
use Rattle.schema_solver_state.proofs.context.settle_all.Given as goal

abbrev pub invariant-loop-pair : goal.invariant-loop-pair
invariant-loop-pair l = AreWide (2 * row_words l.places) l.known × SettlesPairs l.places (take l.pair-index l.pairs) l.initial.known l.known
