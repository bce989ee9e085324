use Rattle.standard_resolver.proofs.references.starts_at_the_innermost_resource.Goals as goal
use Rattle.standard_resolver.proofs.Starts as lemmas

pub returns : goal.returns
returns g c = record { starts = λ w. lemmas.starts w; narrow = lemmas.narrow_bases }
