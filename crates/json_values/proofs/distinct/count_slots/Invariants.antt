use Rattle.std.proofs.Common.{◌≡◌, length, map}
use Rattle.json_values.specs.Keys.{IsMarked}
use Rattle.json_values.proofs.Slots.{HaveMarks}
use Rattle.json_values.proofs.distinct.count_slots.Given as goal

abbrev pub invariant-loop-item : goal.invariant-loop-item
invariant-loop-item g l = record {
  as_long : length l.met.items ≡ length l.initial.met.items;
  some : HaveMarks l.met.items (map (λ k. k.0) l.keyed) l.item-index;
  marked : IsMarked l.met.items (map (λ k. k.0) l.keyed) l.item-index;
}
