use Rattle.std.proofs.Common.{◌≡◌, ◌++◌, map, drop}
use Rattle.schema_reports.specs.InstanceViews.{step_of}
use Rattle.schema_run_steps.specs.EvaluationPlaces.{steps_to}
use Rattle.schema_run_steps.proofs.spots.place_below.Given as goal

abbrev pub invariant-loop-step : goal.invariant-loop-step
invariant-loop-step l = l.lower ++ map step_of (drop l.step-index l.steps) ≡ steps_to l.place ++ map step_of l.steps
