use Rattle.command_line.specs.Tallies.{Counts, IsRight}
use Rattle.command_line.proofs.line_files.Asked.answer_each.Given as goal

abbrev pub invariant-loop-number : goal.invariant-loop-number
invariant-loop-number g l = Counts (IsRight (g.A.Answerer.right l.fn.answerer)) l.fn.desk.tally l.desk.tally
