use Rattle.theory_meaning.proofs.numbers.guarded_is_plain.Goals as goal
use Rattle.theory_meaning.proofs.Headlines as lemmas

pub returns : goal.returns
returns g c = record { answers = λ w keys nodes. lemmas.guarded_is_plain w keys nodes }
