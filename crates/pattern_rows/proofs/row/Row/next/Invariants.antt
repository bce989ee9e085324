use Rattle.std.proofs.Common.{◌+◌, ◌*◌}
use Rattle.pattern_rows.specs.Rows.{words_of}
use Rattle.pattern_rows.proofs.Words.{NoneBelow}
use Rattle.pattern_rows.proofs.row.Row.next.Given as goal

abbrev pub invariant-loop-at : goal.invariant-loop-at
invariant-loop-at l = NoneBelow (words_of l.self) l.from ((l.at + 1) * 64)
