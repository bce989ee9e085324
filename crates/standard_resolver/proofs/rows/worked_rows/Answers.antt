use Rattle.standard_resolver.proofs.DocumentRows.{rows_hold}
use Rattle.standard_resolver.proofs.rows.worked_rows.Goals as goal

pub returns : goal.returns
returns c = record { rows = rows_hold }
