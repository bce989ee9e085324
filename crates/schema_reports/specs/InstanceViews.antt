-- The code's instances and steps, in terms of the definitions.
use Rattle.serde_json.specs.View.{view}
use Rattle.theory_definitions.specs.Instance.{Subject, a_value, a_name, Step, to_member, to_item, to_name}
use Rattle.schema_reports.specs.declared.instance.Instance.{Instance}
use Rattle.schema_reports.specs.declared.instance.Instance.TheVariants as instance
use Rattle.schema_reports.specs.declared.instance.InstanceStep.{InstanceStep}
use Rattle.schema_reports.specs.declared.instance.InstanceStep.TheVariants as step

abbrev pub subject_of : Instance → Subject
subject_of (instance.Value v) = a_value (view v.now)
subject_of (instance.Name n) = a_name n.now

abbrev pub step_of : InstanceStep → Step
step_of (step.Member k) = to_member k.now
step_of (step.Item n) = to_item n
step_of (step.NameOf k) = to_name k.now
