use Rattle.std.proofs.Common.{◌∙◌, sym, ap, option_map}
use Rattle.serde_json.specs.View.{view}
use Rattle.theory_definitions.specs.Instance.{a_value, after_step, to_member}
use Rattle.schema_traits.specs.SchemaViews.{schema_step_of}
use Rattle.schema_reports.proofs.Found.{after_member}
use Rattle.standard_subschemas.proofs.Subjects.{map_then}
use Rattle.standard_subschemas.proofs.steps.value_below.Goals as goal

pub returns-in-Member : goal.returns-in-Member
returns-in-Member c = record {
  below = map_then (λ v. view v.now) a_value c.get.result ∙ (ap (option_map a_value) c.get.ensures
      ∙ (sym (after_member c.as_str.result.now (view c.args.value.now))
      ∙ (ap (λ k. after_step (to_member k) (a_value (view c.args.value.now))) c.as_str.ensures.value
      ∙ ap (λ s. after_step (schema_step_of s) (a_value (view c.args.value.now))) (sym c.in-Member.is))));
}
