use Rattle.theory_meaning.proofs.RunOrder.{all_made, made_runs}
use Rattle.theory_meaning.proofs.covers.runs_are_made.Goals as goal

pub returns : goal.returns
returns c = record { made = λ v call limit as'. (made_runs v call limit as', all_made v call limit as') }
