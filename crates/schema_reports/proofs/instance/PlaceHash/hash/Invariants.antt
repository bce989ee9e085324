use Rattle.std.proofs.Common.{◌≡◌, drop, map}
use Rattle.std.specs.List.{fold}
use Rattle.schema_reports.specs.InstanceViews.{step_of}
use Rattle.schema_reports.specs.PlaceInputs.{place_input}
use Rattle.schema_reports.proofs.instance.PlaceHash.hash.Given as goal

-- to feed the steps that are left is to feed all steps from the start
abbrev pub invariant-loop-step : goal.invariant-loop-step
invariant-loop-step g l = fold g.H.Hasher.write l.state (place_input (map step_of (drop l.step-index l.step-items))) ≡ fold g.H.Hasher.write l.initial.state (place_input (map step_of l.step-items))
