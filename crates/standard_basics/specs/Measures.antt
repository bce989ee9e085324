-- `minLength` and `maxLength` accept a text of at least, or at most, so many characters (Validation
-- 2020-12, 6.3.2 and 6.3.1); `minProperties` accepts an object of at least so many members
-- (6.5.2). Each accepts whatever it does not count.
use Rattle.std.specs.Prelude.{Some, length, ℕ, ◌≡◌, ◌≤◌}
use Rattle.std.specs.Str.{chars}
use Rattle.serde_json.specs.Data.{Members}
use Rattle.theory_definitions.specs.Instance.{Subject, Text}
use Rattle.keyword_authoring.specs.Members.{names_in}
use Rattle.standard_basics.specs.Counts.{subject_members, subject_string}
use Rattle.standard_basics.specs.declared.counts.CountKind.{CountKind}
use Rattle.standard_basics.specs.declared.counts.CountKind.TheVariants.{MaxLength, MinLength, MinProperties}

abbrev pub IsWithin : CountKind → ℕ → Subject → Type 0
IsWithin MinLength n s = (t : Text) → subject_string s ≡ Some t → n ≤ length (chars t)
IsWithin MaxLength n s = (t : Text) → subject_string s ≡ Some t → length (chars t) ≤ n
IsWithin MinProperties n s = (ms : Members) → subject_members s ≡ Some ms → n ≤ length (names_in ms)
