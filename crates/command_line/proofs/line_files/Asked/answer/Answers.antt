use Rattle.command_line.specs.Tallies.{none}
use Rattle.command_line.proofs.Counting.{counts_answered}
use Rattle.command_line.proofs.line_files.Asked.answer.Goals as goal

pub returns-in_err-answer : goal.returns-in_err-answer
returns-in_err-answer g c = record { counts = none }

pub returns : goal.returns
returns g c = record { counts = counts_answered _ _ (record { output = _; line = _; right = c.in_ok-answer.ensures.right }) c.write.ensures.counted }
