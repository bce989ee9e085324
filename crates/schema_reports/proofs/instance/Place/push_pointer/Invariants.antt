use Rattle.std.proofs.Common.{◌≡◌, ◌++◌, map, drop}
use Rattle.schema_reports.specs.InstanceViews.{step_of}
use Rattle.theory_definitions.specs.Pointer.{pointer_to}
use Rattle.schema_reports.proofs.instance.Place.push_pointer.Given as goal

abbrev pub invariant-loop-step : goal.invariant-loop-step
invariant-loop-step l = l.pointer ++ pointer_to (map step_of (drop l.step-index l.step-items)) ≡ l.initial.pointer ++ pointer_to (map step_of l.step-items)
