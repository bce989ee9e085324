use Rattle.theory_meaning.proofs.GuardedSense.{all_nodes_follow}
use Rattle.theory_meaning.proofs.covers.nodes_speak.Goals as goal

pub returns : goal.returns
returns g c = record { follow = λ keywords. all_nodes_follow keywords }
