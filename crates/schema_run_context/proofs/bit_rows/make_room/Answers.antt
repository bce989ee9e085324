use Rattle.std.proofs.Common.{arith, rules}
use Rattle.schema_run_context.proofs.RowsChanged.{each_empty, rows_added}
use Rattle.schema_run_context.proofs.bit_rows.make_room.Goals as goal

pub returns-clause-same : goal.returns-clause-same
returns-clause-same c =
    let made = c.in_ok-resize_with.ensures.items in
    rows_added c.saturating_add.result c.args.rows.now.items c.resize_with.new.self.items made.0
    (omega (arith, c.saturating_add.ensures, c.len.ensures, c.if-node-len.false, c.args.rows.now.ok.0, c.args.rows.now.ok.1, c.args.rows.now.small)) made.2
    (each_empty _ (λ f g v h. search rules) _ made.1 made.0 made.3)
