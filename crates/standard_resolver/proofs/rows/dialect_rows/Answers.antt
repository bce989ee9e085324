use Rattle.standard_resolver.proofs.DialectRows.{rows_hold}
use Rattle.standard_resolver.proofs.rows.dialect_rows.Goals as goal

pub returns : goal.returns
returns c = record { rows = rows_hold }
