use Rattle.std.proofs.Common.{◌≡◌, drop, map}
use Rattle.serde_json.specs.View.{view}
use Rattle.theory_definitions.specs.Instance.{a_value, subject_from}
use Rattle.schema_traits.specs.SchemaViews.{schema_step_of}
use Rattle.standard_resolver.proofs.places.value_after.Given as goal

abbrev pub invariant-loop-step : goal.invariant-loop-step
invariant-loop-step l = subject_from (map schema_step_of l.steps) (a_value (view l.value))
    ≡ subject_from (map schema_step_of (drop l.step-index l.steps)) (a_value (view l.reached))
