use Rattle.std.proofs.Common.{◌∙◌, ap, sym}
use Rattle.serde_json.specs.Data.{object}
use Rattle.serde_json.specs.View.{members_view, view}
use Rattle.theory_definitions.specs.Instance.{a_value, subject_from}
use Rattle.schema_traits.specs.ResolverViews.{place_of}
use Rattle.standard_subschemas.specs.SubschemaRules.{data_of}
use Rattle.standard_resolver.specs.DocumentViews.{held}
use Rattle.standard_resolver.proofs.Insides.{data-of-values, inside_value}
use Rattle.standard_resolver.proofs.places.value_inside.Goals as goal

pub returns : goal.returns
returns c =
    let whole = object (members_view c.args.members.now.entries) in
    let walked = ap data_of (c.value_after_member.ensures.after ∙ ap (λ p. subject_from p (a_value whole)) c.steps-steps.ensures.steps) in
    record {
      value = λ outer is at. sym (data-of-values (λ v. view v.now) c.value_after_member.result)
          ∙ (walked ∙ sym (inside_value (held c.args.documents.now) outer (place_of c.args.place.now) c.args.path.now whole is at));
    }
