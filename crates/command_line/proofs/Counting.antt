-- Tallies that grow by instances.
use Rattle.std.specs.Prelude.{Option, zero, suc, true, min, nat_lt, ℕ, ◌+◌, ◌-◌, ◌^◌, ◌≡◌, ◌≤◌}
use Rattle.std.proofs.Common.{arith, subst, sym}
use Rattle.serde_json.specs.declared.value.Value.{Value}
use Rattle.command_line.specs.Outcomes.{code_of}
use Rattle.command_line.specs.Tallies.{Counts, NoBetter, answered, counted, missed, none, one_more, outcome_of}
use Rattle.command_line.specs.declared.outcomes.Outcome.{Outcome}
use Rattle.command_line.specs.declared.outcomes.Outcome.TheVariants as outcome
use Rattle.command_line.specs.declared.tally.Tally.{Tally}

-- a tally that stays grows by no instance
pub counts_same : {Right : Value → Outcome → Type 0} {t t' : Tally} → t' ≡ t → Counts Right t t'
counts_same {Right = Right} {t = t} same = subst (Counts Right t) (sym same) none

-- an instance is counted with an outcome that is right for it
pub counts_answered : {Right : Value → Outcome → Type 0} {t t' : Tally} (instance : Value) (o : Outcome) → Right instance o → t' ≡ counted o t → Counts Right t t'
counts_answered {Right = Right} {t = t} instance o right counted_is = subst (Counts Right t) (sym counted_is) (answered none right)

-- an instance without a value is counted
pub counts_missed : {Right : Value → Outcome → Type 0} {t t' : Tally} → t' ≡ counted outcome.Unanswered t → Counts Right t t'
counts_missed {Right = Right} {t = t} counted_is = subst (Counts Right t) (sym counted_is) (missed none)

-- a tally that grows twice grows
pub counts_on : {Right : Value → Outcome → Type 0} {t t' t'' : Tally} → Counts Right t t' → Counts Right t' t'' → Counts Right t t''
counts_on a none = a
counts_on a (answered b right) = answered (counts_on a b) right
counts_on a (missed b) = missed (counts_on a b)

more_is_some : (n : ℕ) → nat_lt 0 (one_more n) ≡ true
more_is_some n = grind arith

count_no_better : (o : Outcome) (t : Tally) → NoBetter t (counted o t)
count_no_better outcome.Accepted t = omega arith
count_no_better outcome.Refused t = grind (arith, more_is_some)
count_no_better outcome.Unanswered t = grind (arith, more_is_some)

-- a tally that grows gets no better
pub counts_no_better : {Right : Value → Outcome → Type 0} {t t' : Tally} → Counts Right t t' → NoBetter t t'
counts_no_better none = omega arith
counts_no_better (answered {t' = t'} {o = o} c right) = omega (arith, counts_no_better c, count_no_better o t')
counts_no_better (missed {t' = t'} c) = omega (arith, counts_no_better c, count_no_better outcome.Unanswered t')
