use Rattle.std.proofs.Common.{◌≡◌, ◌++◌, map, drop}
use Rattle.schema_reports.specs.InstanceViews.{step_of, subject_of}
use Rattle.theory_definitions.specs.Laws.{IsPresent}
use Rattle.schema_run_steps.proofs.spots.own_steps.Given as goal

abbrev pub invariant-loop-step : goal.invariant-loop-step
invariant-loop-step l = record {
  present : IsPresent (subject_of l.current) (map step_of (drop l.step-index l.steps));
  so_far : map step_of l.own.items ++ map step_of (drop l.step-index l.steps) ≡ map step_of l.steps;
}
