-- `pattern` accepts a text that the pattern matches, and whatever is no text. A name counts as a
-- text. (Validation 2020-12, 6.3.3)
use Rattle.std.specs.Prelude.{Some, true, ◌≡◌}
use Rattle.theory_definitions.specs.Instance.{Subject, Text}
use Rattle.theory_definitions.specs.Matching.{Matching}
use Rattle.standard_basics.specs.Counts.{subject_string}

abbrev pub IsMatched : Text → Subject → Matching → Type 0
IsMatched pattern s matching = (t : Text) → subject_string s ≡ Some t → matching.matches pattern t ≡ true
