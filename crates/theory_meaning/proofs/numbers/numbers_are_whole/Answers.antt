use Rattle.theory_meaning.proofs.WholeNumbers.{numbers_are_whole}
use Rattle.theory_meaning.proofs.numbers.numbers_are_whole.Goals as goal

pub returns : goal.returns
returns g c = λ w is_whole keys nodes. numbers_are_whole w is_whole keys nodes
