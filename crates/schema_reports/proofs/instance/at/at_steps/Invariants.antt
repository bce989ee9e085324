use Rattle.std.proofs.Common.{◌≡◌, drop, map}
use Rattle.theory_definitions.specs.Instance.{subject_from}
use Rattle.schema_reports.specs.InstanceViews.{step_of, subject_of}
use Rattle.schema_reports.proofs.instance.at.at_steps.Given as goal

abbrev pub invariant-loop-i : goal.invariant-loop-i
invariant-loop-i l = subject_from (map step_of l.steps) (subject_of l.fn.instance) ≡ subject_from (map step_of (drop l.i l.steps)) (subject_of l.current)
