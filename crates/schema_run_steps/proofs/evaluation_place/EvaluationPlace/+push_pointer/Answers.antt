use Rattle.std.proofs.Common.{◌∙◌, ◌++◌, ap, append_assoc, sym}
use Rattle.std.proofs.lemmas.Result.{IfOk-weaker}
use Rattle.schema_reports.specs.InstanceViews.{step_of}
use Rattle.theory_definitions.specs.Pointer.{pointer_to, step_text}
use Rattle.schema_run_steps.proofs.PointerSteps.{pointer_below}
use Rattle.schema_run_steps.specs.EvaluationPlaces.{steps_to}
use Rattle.schema_run_steps.proofs.evaluation_place.EvaluationPlace.+push_pointer.Goals as goal

pub returns-in_ok-push_pointer-in-Below : goal.returns-in_ok-push_pointer-in-Below
returns-in_ok-push_pointer-in-Below t c =
    let before = c.args.pointer.now in
    let above = steps_to c.in-Below.above.now in
    let last = step_of c.in-Below.last in
    record {
      pushed = IfOk-weaker c.push_step.result _ _ (λ _ pushed. pushed
          ∙ ap (λ whole. whole ++ step_text last) c.in_ok-push_pointer-in-Below.ensures.pushed
          ∙ append_assoc before (pointer_to above) (step_text last)
          ∙ ap (λ rest. before ++ rest) (sym (pointer_below above last))
          ∙ ap (λ place. before ++ pointer_to (steps_to place)) (sym c.in-Below.is)) c.push_step.ensures.pushed;
    }
