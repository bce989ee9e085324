use Rattle.std.proofs.Common.{◌≡◌, ◌+◌, length}
use Rattle.text_formats.specs.Addresses as spec
use Rattle.text_formats.proofs.addresses.gap.Given as goal

abbrev pub invariant-loop-rest : goal.invariant-loop-rest
invariant-loop-rest l = record {
  same : spec.gap_from 0 l.text ≡ spec.gap_from l.at l.rest;
  counted : l.at + length l.rest ≡ length l.text;
}

abbrev pub decreases-loop-rest : goal.decreases-loop-rest
decreases-loop-rest l = length l.rest
