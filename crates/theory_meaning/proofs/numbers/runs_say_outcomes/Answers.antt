use Rattle.theory_meaning.proofs.numbers.runs_say_outcomes.Goals as goal
use Rattle.theory_meaning.proofs.NodeRuns as lemmas

pub returns : goal.returns
returns g c = record { says = λ keywords. lemmas.runs_say_outcomes keywords }
