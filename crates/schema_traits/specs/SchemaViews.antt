-- The steps of a schema's path, in terms of the definitions.
use Rattle.std.specs.Rc.{rc_str_bytes}
use Rattle.theory_definitions.specs.Instance.{Step, to_member, to_item}
use Rattle.schema_traits.specs.declared.schema_place.SchemaStep.{SchemaStep}
use Rattle.schema_traits.specs.declared.schema_place.SchemaStep.TheVariants as step

abbrev pub schema_step_of : SchemaStep → Step
schema_step_of (step.Member k) = to_member (rc_str_bytes k)
schema_step_of (step.Item n) = to_item n
