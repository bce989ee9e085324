-- What the run of a keyword for its verdict asks.
use Rattle.std.specs.Prelude.{ℕ, ◌<◌}
use Rattle.theory_definitions.specs.Instance.{Subject}
use Rattle.theory_definitions.specs.Keywords.{Keywords, Reply}
use Rattle.theory_definitions.specs.Remembering.{AlwaysAsksVerdict}

-- In its remaining turns the run asks only for verdicts, whatever the replies are.
abbrev pub AsksVerdictsOn : {K R : Type 0} → Keywords K R → K → Subject → ℕ → R → Reply → Type 0
AsksVerdictsOn keywords m s turns r reply = (n : ℕ) × (turns < n) × AlwaysAsksVerdict keywords m s n r reply
