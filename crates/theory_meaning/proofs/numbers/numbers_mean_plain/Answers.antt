use Rattle.theory_meaning.proofs.numbers.numbers_mean_plain.Goals as goal
use Rattle.theory_meaning.proofs.SameRun as lemmas

pub returns : goal.returns
returns g c = record { means = λ w keys nodes. lemmas.numbers_mean_plain w keys nodes }
