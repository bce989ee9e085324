use Rattle.theory_fixed_points.proofs.solutions.numbers_are_monotone.Goals as goal
use Rattle.theory_fixed_points.proofs.Edges.{numbers_are_monotone}

pub returns : goal.returns
returns g c = record { monotone = λ w keys nodes. numbers_are_monotone w keys nodes }
