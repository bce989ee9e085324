use Rattle.std.proofs.Common.{◌≡◌, ◌+◌, drop}
use Rattle.theory_definitions.specs.Plan.{segments_length}
use Rattle.schema_keys.proofs.start.segments_length.Given as goal

abbrev pub invariant-loop-x : goal.invariant-loop-x
invariant-loop-x l = record {
  so_far : l.size + segments_length l.left (drop l.x-index l.x-items) ≡ segments_length l.count l.x-items;
  size : l.size ≡ l.x-index;
}
