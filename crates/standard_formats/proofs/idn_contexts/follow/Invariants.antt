use Rattle.std.proofs.Common.{◌≡◌, length}
use Rattle.standard_formats.specs.IdnContexts as spec
use Rattle.standard_formats.proofs.idn_contexts.follow.Given as goal

abbrev pub invariant-loop-rest : goal.invariant-loop-rest
invariant-loop-rest l = spec.follow 46 l.label ≡ spec.follow l.before l.rest

abbrev pub decreases-loop-rest : goal.decreases-loop-rest
decreases-loop-rest l = length l.rest
