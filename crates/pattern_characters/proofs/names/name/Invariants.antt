use Rattle.std.proofs.Common.{◌≡◌, length}
use Rattle.pattern_characters.specs.Names.{name, name_from}
use Rattle.pattern_characters.proofs.names.name.Given as goal

abbrev pub invariant-loop-steps : goal.invariant-loop-steps
invariant-loop-steps l = name_from l.steps l.so_far.items l.rest ≡ name l.text

abbrev pub decreases-loop-steps : goal.decreases-loop-steps
decreases-loop-steps l = length l.steps
