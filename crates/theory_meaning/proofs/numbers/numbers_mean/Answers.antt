use Rattle.theory_meaning.proofs.SensesMeant.{numbers_mean}
use Rattle.theory_meaning.proofs.numbers.numbers_mean.Goals as goal

pub returns : goal.returns
returns g c = λ w keys nodes. numbers_mean w keys nodes
