use Rattle.command_line.specs.Tallies.{Counts, IsRight}
use Rattle.command_line.proofs.files.answer_files.Given as goal

abbrev pub invariant-loop-path : goal.invariant-loop-path
invariant-loop-path g l = Counts (IsRight (g.A.Answerer.right l.fn.answerer)) l.fn.desk.tally l.desk.tally
