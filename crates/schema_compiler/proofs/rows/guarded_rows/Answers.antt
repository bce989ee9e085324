use Rattle.schema_compiler.proofs.WorkedRows.{circle_closes, found_nested, found_waiting, nested_way_back, waiting_way_back}
use Rattle.schema_compiler.proofs.rows.guarded_rows.Goals as goal

pub returns : goal.returns
returns c = record { circle_closes = circle_closes; found_nested = found_nested; found_waiting = found_waiting; nested_way_back = nested_way_back; waiting_way_back = waiting_way_back }
