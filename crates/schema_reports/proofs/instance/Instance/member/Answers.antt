use Rattle.std.proofs.Common.{◌∙◌, option_map, ap, sym}
use Rattle.serde_json.specs.View.{view}
use Rattle.theory_definitions.specs.Instance.{a_value, after_step, to_member}
use Rattle.schema_reports.specs.InstanceViews.{subject_of}
use Rattle.schema_reports.proofs.Found.{after_member}
use Rattle.schema_reports.proofs.instance.Instance.member.Goals as goal

pub returns-in-Some-clause-member : goal.returns-in-Some-clause-member
returns-in-Some-clause-member c =
    ap (option_map a_value) c.in-Some.ensures.value
    ∙ sym (after_member c.args.name.now (view c.in-Value.value.now))
    ∙ ap (λ x. after_step (to_member c.args.name.now) (subject_of x)) (sym c.in-Value.is)

pub returns-in-None-clause-member : goal.returns-in-None-clause-member
returns-in-None-clause-member c =
    ap (option_map a_value) c.in-None.ensures.value
    ∙ sym (after_member c.args.name.now (view c.in-Value.value.now))
    ∙ ap (λ x. after_step (to_member c.args.name.now) (subject_of x)) (sym c.in-Value.is)
