use Rattle.schema_compiler.proofs.agreeing.targets_nest_within_the_limit.Goals as goal
use Rattle.schema_compiler.proofs.Nesting as lemmas

pub returns : goal.returns
returns g c = record { within = λ w nested. lemmas.nests_within w nested }
