use Rattle.std.proofs.Common.{◌≡◌, ◌++◌, map, drop}
use Rattle.schema_traits.specs.SchemaViews.{schema_step_of}
use Rattle.schema_traits.proofs.schema_place.SchemaPath.push_steps.Given as goal

abbrev pub invariant-loop-step : goal.invariant-loop-step
invariant-loop-step l = l.self ++ map schema_step_of (drop l.step-index l.more) ≡ l.initial.self ++ map schema_step_of l.more
