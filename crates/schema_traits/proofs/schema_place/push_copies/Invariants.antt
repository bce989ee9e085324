use Rattle.std.proofs.Common.{◌≡◌, ◌++◌, map, drop}
use Rattle.schema_traits.specs.SchemaViews.{schema_step_of}
use Rattle.schema_traits.proofs.schema_place.push_copies.Given as goal

abbrev pub invariant-loop-step : goal.invariant-loop-step
invariant-loop-step l = map schema_step_of l.steps.items ++ map schema_step_of (drop l.step-index l.more) ≡ map schema_step_of l.initial.steps.items ++ map schema_step_of l.more
