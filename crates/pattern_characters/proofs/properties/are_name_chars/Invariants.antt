use Rattle.std.proofs.Common.{◌≡◌, length}
use Rattle.pattern_characters.specs.Properties.{are_name_chars}
use Rattle.pattern_characters.proofs.properties.are_name_chars.Given as goal

abbrev pub invariant-loop-rest : goal.invariant-loop-rest
invariant-loop-rest l = are_name_chars l.rest ≡ are_name_chars l.name

abbrev pub decreases-loop-rest : goal.decreases-loop-rest
decreases-loop-rest l = length l.rest
