use Rattle.std.proofs.Common.{Bool, ◌||◌, ◌≡◌}
use Rattle.pattern_rows.proofs.Words.{Joining}
use Rattle.pattern_rows.proofs.row.Row.unite.Given as goal

abbrev pub invariant-loop-i : goal.invariant-loop-i
invariant-loop-i l = record {
  low : l.self.low ≡ l.initial.self.low;
  joining : Joining (λ (x y : Bool). x || y) l.i l.initial.self.high.items l.self.high.items l.other.high.items;
}
