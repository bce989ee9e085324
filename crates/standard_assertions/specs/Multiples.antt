-- A number is a multiple if its quotient by the divisor is an integer. An instance that is no
-- number is accepted. Both numbers stand for the decimals that were written, and their quotient is
-- not rounded. (Validation 2020-12, 6.2.1)
use Rattle.std.specs.Prelude.{Bool, None, Option, Some, codes, true, ◌++◌}
use Rattle.serde_json.specs.Data.{Num}
use Rattle.serde_json.specs.Find.{as_number}
use Rattle.serde_json.specs.Written.{number_text}
use Rattle.theory_definitions.specs.Instance.{Subject, Text}
use Rattle.theory_definitions.specs.Meaning.{subject_text}
use Rattle.schema_reports.specs.Owned.{value_of}
use Rattle.json_decimals.specs.Multiples.{is_multiple_of}

abbrev pub is_any_multiple : Num → Option Num → Bool
is_any_multiple divisor None = true
is_any_multiple divisor (Some x) = is_multiple_of x divisor

abbrev pub is_multiple : Num → Subject → Bool
is_multiple divisor s = is_any_multiple divisor (as_number (value_of s))

abbrev pub multiple_text : Num → Subject → Text
multiple_text divisor s = subject_text s ++ codes " is not a multiple of " ++ number_text divisor
