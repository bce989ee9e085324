-- What a turn of a run that passes on does, whatever its questions are.
use Rattle.std.specs.Prelude.{Bool, List, Option, length, option_map, ℕ, ◌≡◌, ◌≤◌}
use Rattle.theory_definitions.specs.Keywords.{Question}
use Rattle.schema_traits.specs.KeywordViews.{reply_of}
use Rattle.schema_traits.specs.declared.keyword.Answer.{Answer}
use Rattle.schema_traits.specs.declared.keyword.Mode.{Mode}
use Rattle.schema_traits.specs.declared.keyword.Reply.{Reply}
use Rattle.keyword_authoring.specs.declared.run.Progress.{Progress}
use Rattle.keyword_authoring.specs.declared.run.Stage.{Stage}
use Rattle.keyword_authoring.specs.Asking.{IsNext, IsNextFrom, nth_at, stage_of}
use Rattle.keyword_authoring.specs.Items.{each_from}
use Rattle.keyword_authoring.specs.TurnWords.{AnswersIn, StepsIn, TurnsIn}
use Rattle.keyword_authoring.specs.Ways.{asked, passes_on}

-- the reply is passed on, in each mode
abbrev pub PassesReply : Stage → Reply → Answer → Answer → Type 0
PassesReply stage reply old new = (texts : Bool) (qs : List Question) (m : Mode) → AnswersIn texts (passes_on qs) m stage reply old new

-- the reply is passed on, in the run's mode
abbrev pub PassesReplyIn : Progress → Reply → Answer → Answer → Type 0
PassesReplyIn run reply old new = (texts : Bool) (qs : List Question) → AnswersIn texts (passes_on qs) run.mode run.stage reply old new

-- the next question is the one at the position, if there are at most this many
abbrev pub IsNextPlace : ℕ → Stage → Reply → Option ℕ → Type 0
IsNextPlace limit stage reply place = (texts : Bool) (qs : List Question) → length qs ≤ limit → IsNext qs stage (reply_of texts reply) place

-- the next question is the first from the number on, if there are at most this many numbers
abbrev pub IsNextStart : ℕ → Stage → Reply → Option ℕ → Type 0
IsNextStart limit stage reply start = (texts : Bool) (os : List (Option Question)) → length os ≤ limit → IsNextFrom os stage (reply_of texts reply) start

-- ---- of this many questions, numbered from the first on

-- the run is at the stage that asks the one at the position
abbrev pub StandsAtNumber : ℕ → ℕ → Option ℕ → Progress → Progress → Type 0
StandsAtNumber first count place run run' = (f : ℕ → Question) → run' ≡ record run { stage = stage_of (each_from f first count) place }

-- the one at the position has this number
abbrev pub IsNumberAt : ℕ → ℕ → Option ℕ → Option ℕ → Type 0
IsNumberAt first count place number = (f : ℕ → Question) → nth_at (each_from f first count) place ≡ option_map f number

-- the next run and answer
abbrev pub TurnsByNumber : ℕ → ℕ → Progress → Answer → Reply → Progress → Answer → Type 0
TurnsByNumber first count run old reply run' new = (texts : Bool) (f : ℕ → Question) → TurnsIn texts (passes_on (each_from f first count)) run old reply run' new

-- the step asks the one with this number
abbrev pub StepsByNumber : ℕ → ℕ → Progress → Answer → Reply → Option ℕ → Type 0
StepsByNumber first count run old reply number = (texts : Bool) (f : ℕ → Question)
    → StepsIn texts (passes_on (each_from f first count)) run old reply (asked run.mode (option_map f number))
