use Rattle.std.proofs.Common.{◌≡◌, [], length}
use Rattle.pattern_characters.specs.Classes.{parts_from}
use Rattle.pattern_characters.proofs.classes.parts.Given as goal

abbrev pub invariant-loop-steps : goal.invariant-loop-steps
invariant-loop-steps l = parts_from l.steps l.grammar l.ignore_case l.spans.items.items l.rest ≡ parts_from l.text l.grammar l.ignore_case [] l.text

abbrev pub decreases-loop-steps : goal.decreases-loop-steps
decreases-loop-steps l = length l.steps
