use Rattle.std.proofs.Common.{◌≡◌, ◌≤◌, Some, length}
use Rattle.pattern_characters.specs.Characters as spec
use Rattle.pattern_characters.proofs.characters.hex_from.Given as goal

abbrev pub invariant-loop-rest : goal.invariant-loop-rest
invariant-loop-rest l = record {
  small : l.value ≤ 0x10_FFFF;
  same : spec.hex_from (Some l.value) l.rest ≡ spec.hex_from (Some 0) l.text;
}

abbrev pub decreases-loop-rest : goal.decreases-loop-rest
decreases-loop-rest l = length l.rest
