use Rattle.std.proofs.Common.{◌≡◌, length}
use Rattle.text_formats.specs.Uris as spec
use Rattle.text_formats.proofs.uris.Class.makes.Given as goal

abbrev pub invariant-loop-rest : goal.invariant-loop-rest
invariant-loop-rest l = spec.is_made l.wide l.self l.text ≡ spec.is_made l.wide l.self l.rest

abbrev pub decreases-loop-rest : goal.decreases-loop-rest
decreases-loop-rest l = length l.rest
