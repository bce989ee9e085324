use Rattle.theory_meaning.proofs.CoverCounts.{runs_are}
use Rattle.theory_meaning.proofs.covers.runs_are_counted.Goals as goal

pub returns : goal.returns
returns c = record { counted = λ v call ms cover. runs_are v call cover }
