use Rattle.std.proofs.Common.{◌≡◌, length}
use Rattle.std.specs.List.{list_all}
use Rattle.text_formats.specs.Cutting.{parts}
use Rattle.text_formats.specs.Parts as spec
use Rattle.text_formats.proofs.parts.Part.is_each.Given as goal

abbrev pub invariant-loop-part : goal.invariant-loop-part
invariant-loop-part l = list_all (spec.is_part l.self) (parts l.mark l.text) ≡ list_all (spec.is_part l.self) (parts l.mark l.rest)

abbrev pub decreases-loop-part : goal.decreases-loop-part
decreases-loop-part l = length l.rest
