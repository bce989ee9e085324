use Rattle.std.proofs.Common.{ℕ, ◌≡◌, ◌≤◌, ◌+◌, max, ◌||◌, ◌&&◌, nat_le, nat_lt}
use Rattle.pattern_rows.specs.Rows.{has, width}
use Rattle.pattern_rows.proofs.row.Row.put_span.Given as goal

abbrev pub invariant-span : goal.invariant-span
invariant-span l = record {
  width : width l.self ≡ width l.initial.self;
  near : l.position ≤ max l.fn.first (l.fn.last + 1);
  put : (k : ℕ) → has l.self k ≡ (has l.initial.self k || (nat_le l.fn.first k && nat_lt k l.position));
}
