use Rattle.std.proofs.Common.{◌≡◌, map, drop}
use Rattle.theory_definitions.specs.Instance.{same_place}
use Rattle.schema_reports.specs.InstanceViews.{step_of}
use Rattle.schema_reports.proofs.instance.same_steps.Given as goal

abbrev pub invariant-loop-i : goal.invariant-loop-i
invariant-loop-i l = same_place (map step_of l.a) (map step_of l.b) ≡ same_place (map step_of (drop l.i l.a)) (map step_of (drop l.i l.b))
