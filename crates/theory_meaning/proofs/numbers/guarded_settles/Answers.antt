use Rattle.theory_meaning.proofs.numbers.guarded_settles.Goals as goal
use Rattle.theory_meaning.proofs.Settles as lemmas

pub returns : goal.returns
returns g c = record { settles = λ w instance nodes count. lemmas.guarded_settles w instance nodes count }
