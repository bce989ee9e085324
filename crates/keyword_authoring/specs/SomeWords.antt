-- The next question of a run that asks those of its numbered questions that are present.
use Rattle.std.specs.Prelude.{List, Option, ℕ, ◌≡◌}
use Rattle.theory_definitions.specs.Keywords.{Question}
use Rattle.schema_traits.specs.KeywordViews.{turn_of}
use Rattle.schema_traits.specs.declared.keyword.Mode.{Mode}
use Rattle.schema_traits.specs.declared.keyword.Step.{Step}
use Rattle.keyword_authoring.specs.Asking.{some_at}
use Rattle.keyword_authoring.specs.Somes.{question_of}
use Rattle.keyword_authoring.specs.Ways.{asked, stage_some}
use Rattle.keyword_authoring.specs.declared.run.Progress.{Progress}

-- the run is at the stage that asks the first question that is present from a number on
abbrev pub StandsAtSome : List (Option Question) → Option ℕ → Progress → Progress → Type 0
StandsAtSome os start run run' = run' ≡ record run { stage = stage_some (some_at os start) }

-- the step asks the first question that is present from a number on
abbrev pub AsksSome : List (Option Question) → Option ℕ → Mode → Step → Type 0
AsksSome os start mode step = turn_of step ≡ asked mode (question_of (some_at os start))
