use Rattle.std.proofs.Common.{◌∙◌, None, Some, ap, is_some, option_map, sym}
use Rattle.std.specs.Prelude.{if◌then◌else◌}
use Rattle.serde_json.specs.View.{members_view, view}
use Rattle.theory_definitions.specs.Instance.{after_step, to_member}
use Rattle.schema_reports.specs.InstanceViews.{subject_of}
use Rattle.keyword_authoring.proofs.MemberNames.{has_member-none, has_member-object}
use Rattle.standard_pattern_properties.proofs.Seeking.{not_held}
use Rattle.standard_pattern_properties.proofs.keyword.name_in.Goals as goal

pub returns-in-Some : goal.returns-in-Some
returns-in-Some c = record {
  name = c.name_among.ensures.name ∙ ap (λ b. if b then Some c.args.name.now else None)
      (sym (has_member-object c.args.name.now (view c.in-Value.value.now) (members_view c.in-Some.members.now.entries)
      (sym c.as_object.ensures ∙ ap (option_map (λ m. members_view m.now.entries)) c.in-Some.is))
      ∙ ap (λ i. is_some (after_step (to_member c.args.name.now) (subject_of i))) (sym c.in-Value.is));
}

pub returns-in-None : goal.returns-in-None
returns-in-None c = record {
  name = not_held c.args.name.now _
      (ap (λ i. is_some (after_step (to_member c.args.name.now) (subject_of i))) c.in-Value.is
      ∙ has_member-none c.args.name.now (view c.in-Value.value.now) (sym c.as_object.ensures ∙ ap (option_map (λ m. members_view m.now.entries)) c.in-None.is));
}
