use Rattle.std.proofs.Common.{◌≡◌, length}
use Rattle.text_formats.specs.Templates as spec
use Rattle.text_formats.proofs.templates.are_dots_apart.Given as goal

abbrev pub invariant-loop-rest : goal.invariant-loop-rest
invariant-loop-rest l = spec.are_dots_apart l.text ≡ spec.are_dots_apart l.rest

abbrev pub decreases-loop-rest : goal.decreases-loop-rest
decreases-loop-rest l = length l.rest
