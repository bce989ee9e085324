use Rattle.std.proofs.Common.{◌≡◌, ◌≤◌, ◌-◌, ◌+◌, ◌++◌, length}
use Rattle.schema_places.specs.Rows.{Walks, numbers_from}
use Rattle.schema_places.specs.RowViews.{last_at}
use Rattle.schema_places.proofs.rows.push_numbers.Given as goal

abbrev pub invariant-loop : goal.invariant-loop
invariant-loop l = record {
  pushed : l.numbers.items ++ numbers_from (last_at l.rows) l.gap l.number (l.count - l.counter) ≡ l.fn.numbers.items ++ numbers_from (last_at l.rows) l.gap l.first l.count;
  walk : Walks (last_at l.rows) (length l.rows) l.gap l.number (l.count - l.counter);
  room : l.numbers.len + (l.count - l.counter) ≤ l.numbers.cap;
}
