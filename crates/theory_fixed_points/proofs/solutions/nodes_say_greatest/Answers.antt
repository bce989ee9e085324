use Rattle.theory_fixed_points.proofs.solutions.nodes_say_greatest.Goals as goal
use Rattle.theory_fixed_points.proofs.NodesSay as lemmas

pub returns : goal.returns
returns g c = record { greatest = λ keywords. lemmas.nodes_say_greatest keywords }
