use Rattle.std.proofs.Common.{◌∙◌, ◌++◌, ◌∷◌, [], ap, subst, sym}
use Rattle.theory_definitions.specs.Instance.{Place}
use Rattle.schema_places.specs.Numbers.{number_of}
use Rattle.schema_places.proofs.Closing.{none_below, stands}
use Rattle.schema_reports.specs.InstanceViews.{step_of}
use Rattle.schema_run_steps.specs.EvaluationPlaces.{CarriesItsNumber, steps_to}
use Rattle.schema_run_steps.specs.declared.evaluation_place.EvaluationPlace.{EvaluationPlace}
use Rattle.schema_run_steps.proofs.evaluation_place.EvaluationPlace.+walked_number.Goals as goal

pub child-requires : goal.child-requires
child-requires t c =
    let ps = c.args.places.now in
    let above = subst (λ (p : EvaluationPlace). CarriesItsNumber ps p) c.in-Below.is c.requires.carries in
    let own = subst (λ (p : EvaluationPlace). CarriesItsNumber ps p) c.in-Numbered-above.is above in
    record { known = (stands _ ps _ own).0 }

pub returns-in-Numbered-above : goal.returns-in-Numbered-above
returns-in-Numbered-above t c =
    let ps = c.args.places.now in
    let above = subst (λ (p : EvaluationPlace). CarriesItsNumber ps p) c.in-Below.is c.requires.carries in
    let own = subst (λ (p : EvaluationPlace). CarriesItsNumber ps p) c.in-Numbered-above.is above in
    let at = stands _ ps _ own in
    record {
      number = c.child.ensures.child ∙ ap (λ (q : Place). number_of (q ++ step_of c.in-Below.step ∷ []) ps) at.1
          ∙ ap (λ (p : EvaluationPlace). number_of (steps_to p ++ step_of c.in-Below.step ∷ []) ps) (sym c.in-Numbered-above.is)
          ∙ ap (λ (p : EvaluationPlace). number_of (steps_to p) ps) (sym c.in-Below.is);
    }

pub child-requires-in-Some : goal.child-requires-in-Some
child-requires-in-Some t c = record { known = (stands (steps_to c.in-Below.above.now) c.args.places.now c.in-Some.number (sym c.in-Some.ensures.number)).0 }

pub returns-in-Some : goal.returns-in-Some
returns-in-Some t c =
    let ps = c.args.places.now in
    let at = stands (steps_to c.in-Below.above.now) ps c.in-Some.number (sym c.in-Some.ensures.number) in
    record {
      number = c.child-in-Some.ensures.child ∙ ap (λ (q : Place). number_of (q ++ step_of c.in-Below.step ∷ []) ps) at.1
          ∙ ap (λ (p : EvaluationPlace). number_of (steps_to p) ps) (sym c.in-Below.is);
    }

pub returns-in-None : goal.returns-in-None
returns-in-None t c =
    let ps = c.args.places.now in
    record {
      number = sym (none_below (steps_to c.in-Below.above.now) (step_of c.in-Below.step) ps c.assert_closed.ensures.closed (sym c.in-None.ensures.number))
          ∙ ap (λ (p : EvaluationPlace). number_of (steps_to p) ps) (sym c.in-Below.is);
    }
