use Rattle.std.specs.Prelude.{Bool, map, ◌≡◌}
use Rattle.std.specs.Vec.Iter.{into_iter_items}
use Rattle.schema_run_steps.specs.EntryUnits.{absorbed_of, placed_of}
use Rattle.theory_definitions.specs.UnitOrder.{with_absorbed}
use Rattle.schema_run_steps.proofs.evaluation_order.UnitsInOrder.place_absorbed.Given as goal

-- with those that are left it is what it will be
abbrev pub invariant-loop-one : goal.invariant-loop-one
invariant-loop-one l = (texts : Bool) → with_absorbed (placed_of texts l.self) (map (absorbed_of texts) (into_iter_items l.one-iterator)) ≡ with_absorbed (placed_of texts l.fn.self) (map (absorbed_of texts) l.fn.absorbed.items)
