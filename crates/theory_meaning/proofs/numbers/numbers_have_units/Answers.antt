use Rattle.theory_meaning.proofs.SensesMeant as lemmas
use Rattle.theory_meaning.proofs.numbers.numbers_have_units.Goals as goal

pub returns : goal.returns
returns g c = record { units = λ w keys nodes. lemmas.numbers_have_units w keys nodes }
