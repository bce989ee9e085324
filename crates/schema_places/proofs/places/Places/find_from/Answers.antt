use Rattle.std.proofs.Common.{◌∙◌, ◌+◌, ◌++◌, List, ap, drop, map, sym}
use Rattle.std.proofs.lemmas.List.{append-nil, drop_all, drop_more}
use Rattle.theory_definitions.specs.Instance.{Place}
use Rattle.schema_reports.specs.InstanceViews.{step_of}
use Rattle.schema_reports.specs.declared.instance.InstanceStep.{InstanceStep}
use Rattle.schema_places.specs.Numbers.{number_of, place_at}
use Rattle.schema_places.proofs.LaidOut.{closed, found_given}
use Rattle.schema_places.proofs.Walking.{step_none, step_some}
use Rattle.schema_places.proofs.places.Places.find_from.Goals as goal

pub returns-in-None : goal.returns-in-None
returns-in-None c =
    let ps = c.args.self.now in
    let steps = c.args.steps.now in
    let i = c.loop-step.step-index in
    let here = place_at ps c.loop-step.number in
    record {
      number = step_none here _ (map step_of (drop (i + 1) steps)) ps (closed c.self.inside.root.now ps c.self.view_is) c.in-None.ensures.child
          ∙ ap (λ (xs : List InstanceStep). number_of (here ++ map step_of xs) ps) (sym (drop_more steps i _ c.loop-step-test.true))
          ∙ c.loop-step.invariant.1;
    }

pub loop-step-preserved : goal.loop-step-preserved
loop-step-preserved c =
    let ps = c.args.self.now in
    let steps = c.args.steps.now in
    let i = c.loop-step.step-index in
    let here = place_at ps c.loop-step.number in
    let on = step_some here _ (map step_of (drop (i + 1) steps)) ps c.in-Some.below c.in-Some.ensures.child in (
      on.0,
      on.1
          ∙ ap (λ (xs : List InstanceStep). number_of (here ++ map step_of xs) ps) (sym (drop_more steps i _ c.loop-step-test.true))
          ∙ c.loop-step.invariant.1,
    )

pub returns : goal.returns
returns c =
    let ps = c.args.self.now in
    let steps = c.args.steps.now in
    let i = c.loop-step.step-index in
    let here = place_at ps c.loop-step.number in
    record {
      number = found_given c.self.inside.root.now ps c.self.inside.table c.loop-step.number c.self.invariant c.self.view_is c.loop-step.invariant.0
          ∙ ap (λ (x : Place). number_of x ps) (sym (append-nil here))
          ∙ ap (λ (xs : List InstanceStep). number_of (here ++ map step_of xs) ps) (sym (drop_all i steps c.loop-step-test.false))
          ∙ c.loop-step.invariant.1;
    }
