use Rattle.std.proofs.Common.{All, Ok, take, true}
use Rattle.std.specs.Fn.{FnReturnsAt}
use Rattle.test_rows.proofs.tables.wrong_row.Given as goal

abbrev pub invariant-loop-number : goal.invariant-loop-number
invariant-loop-number g l = All (λ row. FnReturnsAt g.F.Fn l.holds row (Ok true)) (take l.number l.rows.items)
