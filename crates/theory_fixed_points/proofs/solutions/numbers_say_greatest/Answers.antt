use Rattle.theory_fixed_points.proofs.solutions.numbers_say_greatest.Goals as goal
use Rattle.theory_fixed_points.proofs.NumbersSay as lemmas

pub returns : goal.returns
returns g c = record {
  says = λ w keys nodes. lemmas.numbers_say_greatest w keys nodes;
  stands = λ w keys nodes. lemmas.largest_stands w keys nodes;
  alike = λ w keys nodes. lemmas.keys_accept_alike w keys nodes;
  accept = λ w keys nodes. lemmas.numbers_accept_greatest w keys nodes;
  plain = λ w keys nodes. lemmas.plain_is_greatest w keys nodes;
}
