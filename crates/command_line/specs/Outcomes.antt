-- The outcome for an instance, and for several taken together.
use Rattle.std.specs.Prelude.{Bool, Err, Ok, Result, false, true, ℕ}
use Rattle.command_line.specs.declared.desk.Stop.{Stop}
use Rattle.command_line.specs.declared.outcomes.Outcome.{Outcome}
use Rattle.command_line.specs.declared.outcomes.Outcome.TheVariants as outcome

-- the exit status of the process
abbrev pub code_of : Outcome → ℕ
code_of outcome.Accepted = 0
code_of outcome.Refused = 1
code_of outcome.Unanswered = 2

-- the outcome of a run whose instances had this outcome together; it is unanswered if the run was
-- stopped or an answer could not be written
abbrev pub outcome_told : Bool → Outcome → Result (Unit {0}) Stop → Outcome
outcome_told true o ended = outcome.Unanswered
outcome_told false o (Ok done) = o
outcome_told false o (Err stop) = outcome.Unanswered
