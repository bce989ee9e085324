use Rattle.std.proofs.Common.{◌≡◌, ◌++◌, map, drop}
use Rattle.schema_traits.specs.SchemaViews.{schema_step_of}
use Rattle.theory_definitions.specs.Pointer.{pointer_to}
use Rattle.schema_traits.proofs.schema_place.push_pointer_of.Given as goal

abbrev pub invariant-loop-step : goal.invariant-loop-step
invariant-loop-step l = l.pointer ++ pointer_to (map schema_step_of (drop l.step-index l.steps)) ≡ l.initial.pointer ++ pointer_to (map schema_step_of l.steps)
