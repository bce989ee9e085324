-- The replies in each mode, alone and joined.
use Rattle.std.specs.Prelude.{◌≡◌, Bool, false, is_some, not, Option, map}
use Rattle.theory_definitions.specs.Instance.{Text}
use Rattle.theory_definitions.specs.Reports.{Outcome}
use Rattle.theory_definitions.specs.Keywords.{Mode, Reply, all_of_it, first_of_it, for_all, for_first, for_units, for_verdict, no_reply, truth}
use Rattle.theory_definitions.specs.Meaning.{both, stamped}
use Rattle.theory_definitions.specs.Runs.{first_error}

-- the reply that an outcome yields in a mode; none in the mode for units
abbrev pub reply_by : Mode → Outcome → Reply
reply_by for_verdict o = truth o.verdict
reply_by for_first o = first_of_it (first_error o.errors)
reply_by for_all o = all_of_it o.errors
reply_by for_units o = no_reply

-- a reply says "invalid" in a mode that stops at the first error
abbrev pub refuses : Reply → Bool
refuses (truth b) = not b
refuses (first_of_it o) = is_some o
refuses _ = false

-- a reply is the verdict "valid"
abbrev pub accepts : Reply → Bool
accepts (truth b) = b
accepts _ = false

-- the third reply is the one of the joined outcomes of the first two
abbrev pub Joins : Reply → Reply → Reply → Type 0
Joins a b r = (mode : Mode) (o o' : Outcome) → a ≡ reply_by mode o → b ≡ reply_by mode o' → r ≡ reply_by mode (both o o')

-- the second reply is the first one with its errors stamped
abbrev pub Stamps : Option Text → Reply → Reply → Type 0
Stamps location a r = (mode : Mode) (o : Outcome) → a ≡ reply_by mode o → r ≡ reply_by mode (record { verdict = o.verdict; errors = map (stamped location) o.errors; spans = o.spans })
