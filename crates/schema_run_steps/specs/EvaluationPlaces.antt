-- The place at which a node is evaluated, as its steps, and the number that it may carry.
use Rattle.std.specs.Prelude.{List, Some, ◌++◌, ◌∷◌, ◌≡◌, []}
use Rattle.theory_definitions.specs.Instance.{Place}
use Rattle.schema_places.specs.Numbers.{number_of}
use Rattle.schema_reports.specs.InstanceViews.{step_of}
use Rattle.schema_run_steps.specs.declared.evaluation_place.EvaluationPlace.{EvaluationPlace, Given, Below', Numbered'}

-- the steps of a place: those of the place that the caller supplied, then each step below it
abbrev pub steps_to : EvaluationPlace → Place
steps_to (Given place) = place.now
steps_to (Below' pointer above step) = steps_to above ++ step_of step ∷ []
steps_to (Numbered' pointer same number) = steps_to same

-- if a place or one above it carries a number, then that is its number
abbrev pub CarriesItsNumber : List Place → EvaluationPlace → Type 0
CarriesItsNumber places (Given place) = Unit {0}
CarriesItsNumber places (Below' pointer above step) = CarriesItsNumber places above
CarriesItsNumber places (Numbered' pointer same number) = number_of (steps_to same) places ≡ Some number
