use Rattle.std.proofs.Common.{◌∙◌, sym, ap, option_map}
use Rattle.serde_json.specs.Data.{object}
use Rattle.serde_json.specs.View.{members_view, view}
use Rattle.serde_json.proofs.Views.{view-lookup, view_of_ref}
use Rattle.theory_definitions.specs.Instance.{a_value, after_step, to_member}
use Rattle.schema_traits.specs.SchemaViews.{schema_step_of}
use Rattle.schema_reports.proofs.Found.{after_member}
use Rattle.standard_subschemas.proofs.Subjects.{map_then}
use Rattle.standard_resolver.proofs.places.member_below.Goals as goal

pub returns-in-Member : goal.returns-in-Member
returns-in-Member c =
    let entries = c.args.members.now.entries in
    let whole = object (members_view entries) in
    let k = c.as_str.result.now in
    record {
      below = map_then (λ v. view v.now) a_value c.get.result
          ∙ (ap (option_map a_value) (view_of_ref c.get.result ∙ (ap (option_map view) c.get.ensures.value ∙ view-lookup k entries))
          ∙ (sym (after_member k whole) ∙ (ap (λ n. after_step (to_member n) (a_value whole)) c.as_str.ensures.value
          ∙ ap (λ s. after_step (schema_step_of s) (a_value whole)) (sym c.in-Member.is))));
    }
