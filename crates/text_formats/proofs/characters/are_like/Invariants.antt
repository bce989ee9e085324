use Rattle.std.proofs.Common.{◌≡◌, length}
use Rattle.text_formats.specs.Characters as spec
use Rattle.text_formats.proofs.characters.are_like.Given as goal

abbrev pub invariant-loop-left : goal.invariant-loop-left
invariant-loop-left l = spec.are_like l.picture l.text ≡ spec.are_like l.left l.rest

abbrev pub decreases-loop-left : goal.decreases-loop-left
decreases-loop-left l = length l.left
