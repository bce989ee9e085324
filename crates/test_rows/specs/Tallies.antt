-- The results of rows, as they are counted.
use Rattle.std.specs.Prelude.{Bool, List, [], codes, count_by, decimal, length, not, ◌++◌, ◌≡◌, ◌∷◌}
use Rattle.theory_definitions.specs.Instance.{Text}
use Rattle.test_rows.specs.declared.judging.Tally.{Tally}

-- one more row is counted, with this verdict
abbrev pub Counts : Bool → Tally → Tally → Type 0
Counts right old new = new.verdicts.items ≡ old.verdicts.items ++ (right ∷ [])

-- the number of rows, and how many of them are wrong
abbrev pub summary_text : List Bool → Text
summary_text verdicts = decimal (length verdicts) ++ (codes " rows, " ++ (decimal (count_by not verdicts) ++ codes " wrong"))
