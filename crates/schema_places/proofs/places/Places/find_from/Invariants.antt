use Rattle.std.proofs.Common.{◌≡◌, ◌<◌, ◌++◌, drop, length, map}
use Rattle.schema_reports.specs.InstanceViews.{step_of}
use Rattle.schema_places.specs.Numbers.{number_of, place_at}
use Rattle.schema_places.proofs.places.Places.find_from.Given as goal

abbrev pub invariant-loop-step : goal.invariant-loop-step
invariant-loop-step l =
    (l.number < length l.self)
    × (number_of (place_at l.self l.number ++ map step_of (drop l.step-index l.steps)) l.self ≡ number_of (place_at l.self l.fn.place ++ map step_of l.steps) l.self)
