use Rattle.std.proofs.Common.{◌∙◌, option_map, Some, ap, sym}
use Rattle.serde_json.specs.View.{view}
use Rattle.theory_definitions.specs.Instance.{a_name, after_step, to_name}
use Rattle.schema_reports.specs.InstanceViews.{subject_of}
use Rattle.schema_reports.proofs.Found.{after_name}
use Rattle.schema_reports.proofs.instance.Instance.name_of.Goals as goal

pub returns-in-Some-clause-name : goal.returns-in-Some-clause-name
returns-in-Some-clause-name c =
    let k = c.args.name.now in
    ap (λ n. Some (a_name n)) c.in-Some.ensures.name
    ∙ ap (option_map (λ e. a_name k)) c.in-Some.ensures.value
    ∙ sym (after_name k (view c.in-Value.value.now))
    ∙ ap (λ x. after_step (to_name k) (subject_of x)) (sym c.in-Value.is)

pub returns-in-None-clause-name : goal.returns-in-None-clause-name
returns-in-None-clause-name c =
    let k = c.args.name.now in
    ap (option_map (λ e. a_name k)) c.in-None.ensures.value
    ∙ sym (after_name k (view c.in-Value.value.now))
    ∙ ap (λ x. after_step (to_name k) (subject_of x)) (sym c.in-Value.is)
