use Rattle.std.proofs.Common.{◌∙◌, ◌≡◌, ◌-◌, List, Option, ap, arith, drop, length, map, option_and_then, sym, take}
use Rattle.std.proofs.lemmas.List.{length-drop, take_all}
use Rattle.serde_json.specs.Data.{object}
use Rattle.serde_json.specs.View.{members_view, view}
use Rattle.theory_definitions.specs.Instance.{Subject, a_value, subject_from}
use Rattle.schema_traits.specs.SchemaViews.{schema_step_of}
use Rattle.schema_traits.specs.declared.schema_place.SchemaStep.{SchemaStep}
use Rattle.standard_resolver.proofs.Insides.{first_then}
use Rattle.standard_resolver.proofs.places.value_after_member.Goals as goal

pub returns-in-Some : goal.returns-in-Some
returns-in-Some c =
    let steps = c.args.steps.now in
    let rest : List SchemaStep = drop 1 steps in
    let whole : take (length steps - 1) rest ≡ rest = take_all (length steps - 1) rest (omega (arith, length-drop 1 steps)) in
    let x = a_value (object (members_view c.args.members.now.entries)) in
    record {
      after = c.value_after.ensures.after
          ∙ (ap (λ (r : List SchemaStep). subject_from (map schema_step_of r) (a_value (view c.in-Some.value.now))) whole
          ∙ (ap (λ (o : Option Subject). option_and_then (subject_from (map schema_step_of rest)) o) c.in-Some.ensures.below
          ∙ sym (first_then steps c.index-steps-0.result x c.requires.step c.index-steps-0.is)));
    }
