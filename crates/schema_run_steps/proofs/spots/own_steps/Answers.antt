use Rattle.std.proofs.Common.{◌≡◌, ◌+◌, map, drop, is_some, true, Some, None, subst}
use Rattle.std.specs.Prelude.{Option, option_and_then}
use Rattle.std.proofs.lemmas.List.{drop_more}
use Rattle.theory_definitions.specs.Instance.{Place, Step, Subject, after_step, subject_from}
use Rattle.schema_reports.specs.InstanceViews.{step_of, subject_of}
use Rattle.theory_definitions.specs.Laws.{IsPresent}
use Rattle.schema_run_steps.proofs.spots.own_steps.Goals as goal

step_there : (t : Step) (p : Place) (s : Subject) → is_some (option_and_then (subject_from p) (after_step t s)) ≡ true → is_some (after_step t s) ≡ true
step_there t p s h = go (after_step t s) h
  where
    go : (o : Option Subject) → is_some (option_and_then (subject_from p) o) ≡ true → is_some o ≡ true
    go None h = h
    go (Some x) h = cc

pub own_step-requires : goal.own_step-requires
own_step-requires c =
    let there = subst (λ xs. IsPresent (subject_of c.loop-step.current) (map step_of xs)) (drop_more c.args.steps.now c.loop-step.step-index _ c.loop-step-test.true) c.loop-step.invariant.present in
    record { present = step_there _ (map step_of (drop (c.loop-step.step-index + 1) c.args.steps.now)) (subject_of c.loop-step.current) there }
