use Rattle.std.proofs.Common.{◌≡◌, map, drop}
use Rattle.theory_definitions.specs.Instance.{subject_from}
use Rattle.schema_reports.specs.InstanceViews.{step_of, subject_of}
use Rattle.schema_run_steps.proofs.faults.instance_below.Given as goal

abbrev pub invariant-loop-step : goal.invariant-loop-step
invariant-loop-step l = subject_from (map step_of l.steps) (subject_of l.instance) ≡ subject_from (map step_of (drop l.step-index l.steps)) (subject_of l.found)
