use Rattle.std.proofs.Common.{◌≡◌, ◌≤◌, ◌+◌, length, option_map}
use Rattle.text_formats.specs.Cutting.{parts}
use Rattle.text_formats.specs.Addresses as spec
use Rattle.text_formats.proofs.addresses.groups.Given as goal

abbrev pub invariant-loop-group : goal.invariant-loop-group
invariant-loop-group l = record {
  counted : spec.groups l.ending (parts 58 l.text) ≡ option_map (λ n. l.count + n) (spec.groups l.ending (parts 58 l.rest));
  few : l.count + length l.rest ≤ length l.text;
}

abbrev pub decreases-loop-group : goal.decreases-loop-group
decreases-loop-group l = length l.rest
