use Rattle.theory_fixed_points.proofs.solutions.solver_says.Goals as goal
use Rattle.theory_fixed_points.proofs.Solved as lemmas

pub returns : goal.returns
returns g c = record {
  guarded = λ w. lemmas.solver_says_guarded w;
  greatest = λ w. lemmas.solver_says_greatest w;
  sound = λ w. lemmas.staged_is_sound w;
  sets = λ w. lemmas.tells_under_sets w;
}
