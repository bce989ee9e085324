use Rattle.command_line.specs.Tallies.{Counts, IsRight}
use Rattle.command_line.proofs.files.Asked.answer_each.Given as goal

abbrev pub invariant-loop-file : goal.invariant-loop-file
invariant-loop-file g l = Counts (IsRight (g.A.Answerer.right l.fn.self.answerer.now)) l.fn.desk.tally l.desk.tally
