use Rattle.theory_meaning.proofs.numbers.depths_agree.Goals as goal
use Rattle.theory_meaning.proofs.DepthsAgree as lemmas

pub returns : goal.returns
returns g c = record { agree = λ w. lemmas.depths_agree w }
