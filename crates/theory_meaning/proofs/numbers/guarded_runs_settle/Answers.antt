use Rattle.theory_meaning.proofs.numbers.guarded_runs_settle.Goals as goal
use Rattle.theory_meaning.proofs.NodeRuns as lemmas

pub returns : goal.returns
returns g c = record { settles = λ keywords. lemmas.guarded_runs_settle keywords }
