use Rattle.std.proofs.Common.{◌∙◌, sym}
use Rattle.schema_run_context.proofs.RowsChanged.{row_there}
use Rattle.schema_run_context.proofs.bit_rows.Rows.make_row.Goals as goal

pub returns-then-has_row-clause-made : goal.returns-then-has_row-clause-made
returns-then-has_row-clause-made c = row_there c.args.node c.args.words c.args.self.now (sym c.has_row.ensures.row ∙ c.if-has_row.true)
