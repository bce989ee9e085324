use Rattle.theory_fixed_points.proofs.solutions.reached_say_greatest.Goals as goal
use Rattle.theory_fixed_points.proofs.ReachedSay as lemmas

pub returns : goal.returns
returns g c = record {
  answer = λ w keys nodes. lemmas.reached_answer w keys nodes;
  finish = λ w keys nodes. lemmas.reached_finish w keys nodes;
  stand = λ w keys nodes. lemmas.reached_stand w keys nodes;
}
