use Rattle.schema_compiler.proofs.agreeing.numbers_are_settled_by_edges.Goals as goal
use Rattle.schema_compiler.proofs.Nesting as lemmas

pub returns : goal.returns
returns g c = record { settled = λ w nested. lemmas.settled_by_edges w nested }
