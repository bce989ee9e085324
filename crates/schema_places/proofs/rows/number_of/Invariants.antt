use Rattle.std.proofs.Common.{◌≡◌, drop}
use Rattle.schema_places.specs.Rows.{named_by, number_of_name}
use Rattle.schema_places.specs.RowViews.{text_at}
use Rattle.schema_places.proofs.rows.number_of.Given as goal

abbrev pub invariant-loop-number : goal.invariant-loop-number
invariant-loop-number l = number_of_name l.name (named_by (text_at l.rows) (drop l.number-index l.numbers)) ≡ number_of_name l.name (named_by (text_at l.rows) l.numbers)
