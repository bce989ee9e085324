use Rattle.theory_fixed_points.proofs.solutions.calls_say_greatest.Goals as goal
use Rattle.theory_fixed_points.proofs.NumbersSay as lemmas

pub returns : goal.returns
returns g c = record {
  answers = λ w keys nodes. lemmas.greatest_answers w keys nodes;
  finishing = λ w keys nodes. lemmas.finishing_answers w keys nodes;
}
