use Rattle.std.proofs.Common.{◌≡◌, map, drop}
use Rattle.theory_definitions.specs.Instance.{same_place}
use Rattle.schema_traits.specs.SchemaViews.{schema_step_of}
use Rattle.schema_traits.proofs.schema_place.same_schema_steps.Given as goal

abbrev pub invariant-loop-i : goal.invariant-loop-i
invariant-loop-i l = same_place (map schema_step_of l.a) (map schema_step_of l.b) ≡ same_place (map schema_step_of (drop l.i l.a)) (map schema_step_of (drop l.i l.b))
