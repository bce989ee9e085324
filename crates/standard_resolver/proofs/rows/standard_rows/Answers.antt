use Rattle.standard_resolver.proofs.StandardRows.{rows_hold}
use Rattle.standard_resolver.proofs.rows.standard_rows.Goals as goal

pub returns : goal.returns
returns c = record { rows = rows_hold }
