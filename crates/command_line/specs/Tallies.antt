-- Counts of instances. Each stops at the greatest number of 64 bits.
use Rattle.std.specs.Prelude.{Option, ℕ, if◌then◌else◌, min, max, nat_lt, ◌*◌, ◌+◌, ◌-◌, ◌/◌, ◌^◌, ◌≤◌}
use Rattle.serde_json.specs.declared.value.Value.{Value}
use Rattle.command_line.specs.Outcomes.{code_of}
use Rattle.command_line.specs.declared.options.Output.{Output}
use Rattle.command_line.specs.declared.outcomes.Outcome.{Outcome}
use Rattle.command_line.specs.declared.outcomes.Outcome.TheVariants as outcome
use Rattle.command_line.specs.declared.tally.Tally.{Tally}

abbrev pub one_more : ℕ → ℕ
one_more n = min (n + 1) (2 ^ 64 - 1)

-- the tally without instances
abbrev pub no_instances : Tally
no_instances = record { instances = 0; refused = 0; unanswered = 0 }

-- the tally with one more instance, which has this outcome
abbrev pub counted : Outcome → Tally → Tally
counted outcome.Accepted t = record t { instances = one_more t.instances }
counted outcome.Refused t = record t { instances = one_more t.instances; refused = one_more t.refused }
counted outcome.Unanswered t = record t { instances = one_more t.instances; unanswered = one_more t.unanswered }

-- the outcome of the instances, taken together
abbrev pub outcome_of : Tally → Outcome
outcome_of t = if nat_lt 0 t.unanswered then outcome.Unanswered else if nat_lt 0 t.refused then outcome.Refused else outcome.Accepted

-- the number of instances per second over this many milliseconds
abbrev pub rate_of : ℕ → ℕ → ℕ
rate_of instances millis = min (instances * 1000 / max millis 1) (2 ^ 64 - 1)

-- an outcome is right for an instance, by one of the outputs, for a file or a line
pub record IsRight (Right : Output → Option ℕ → Value → Outcome → Type 0) (instance : Value) (o : Outcome) : Type 0 where
  pub output : Output
  pub line : Option ℕ
  pub right : Right output line instance o

-- the tally grows by instances, one after the other: each with an outcome that is right for its
-- value, or unanswered where it has none
pub data Counts (Right : Value → Outcome → Type 0) : Tally → Tally → Type 0 where
  none : {t : Tally} → Counts Right t t
  answered : {t t' : Tally} {instance : Value} {o : Outcome} → Counts Right t t' → Right instance o → Counts Right t (counted o t')
  missed : {t t' : Tally} → Counts Right t t' → Counts Right t (counted outcome.Unanswered t')

-- the second tally's outcome has at least the status of the first one's
abbrev pub NoBetter : Tally → Tally → Type 0
NoBetter before after = code_of (outcome_of before) ≤ code_of (outcome_of after)
