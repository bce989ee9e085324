use Rattle.theory_meaning.proofs.numbers.numbers_say_unfolding.Goals as goal
use Rattle.theory_meaning.proofs.SameOutcome as lemmas

pub returns : goal.returns
returns g c = record { says = λ w keys nodes. lemmas.numbers_say_unfolding w keys nodes }
