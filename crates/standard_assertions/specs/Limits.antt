-- A limit of numbers: a number must be at least or at most the limit, or above or below it. An
-- instance that is no number is accepted. In draft 4 `exclusiveMinimum` and `exclusiveMaximum` are
-- truth values beside `minimum` and `maximum`: if one is true, the keyword beside it excludes its
-- limit. (Validation 2020-12, 6.2.2 to 6.2.5; of draft 4, 5.1.2 and 5.1.3)
use Rattle.std.specs.Prelude.{Bool, None, Option, Some, codes, true, ◌++◌}
use Rattle.serde_json.specs.Data.{Num}
use Rattle.serde_json.specs.Find.{as_number}
use Rattle.serde_json.specs.Written.{number_text}
use Rattle.theory_definitions.specs.Instance.{Subject, Text}
use Rattle.theory_definitions.specs.Meaning.{subject_text}
use Rattle.schema_reports.specs.Owned.{value_of}
use Rattle.json_values.specs.Numbers.{at_most, less}
use Rattle.standard_assertions.specs.declared.limits.LimitKind.{LimitKind}
use Rattle.standard_assertions.specs.declared.limits.LimitKind.TheVariants as kind

abbrev pub limit_name : LimitKind → Text
limit_name kind.Minimum = codes "minimum"
limit_name kind.Maximum = codes "maximum"
limit_name kind.ExclusiveMinimum = codes "exclusiveMinimum"
limit_name kind.ExclusiveMaximum = codes "exclusiveMaximum"
limit_name kind.MinimumExcluded = codes "minimum"
limit_name kind.MaximumExcluded = codes "maximum"

-- whether the number x is on the right side of the limit
abbrev pub is_within : LimitKind → Num → Num → Bool
is_within kind.Minimum limit x = at_most limit x
is_within kind.Maximum limit x = at_most x limit
is_within kind.ExclusiveMinimum limit x = less limit x
is_within kind.ExclusiveMaximum limit x = less x limit
is_within kind.MinimumExcluded limit x = less limit x
is_within kind.MaximumExcluded limit x = less x limit

abbrev pub is_any_within : LimitKind → Num → Option Num → Bool
is_any_within kind limit None = true
is_any_within kind limit (Some x) = is_within kind limit x

abbrev pub keeps_limit : LimitKind → Num → Subject → Bool
keeps_limit kind limit s = is_any_within kind limit (as_number (value_of s))

abbrev pub limit_words : LimitKind → Text
limit_words kind.Minimum = codes " is less than the minimum of "
limit_words kind.Maximum = codes " is greater than the maximum of "
limit_words kind.ExclusiveMinimum = codes " is less than or equal to the minimum of "
limit_words kind.ExclusiveMaximum = codes " is greater than or equal to the maximum of "
limit_words kind.MinimumExcluded = codes " is less than or equal to the minimum of "
limit_words kind.MaximumExcluded = codes " is greater than or equal to the maximum of "

abbrev pub limit_text : LimitKind → Num → Subject → Text
limit_text kind limit s = subject_text s ++ limit_words kind ++ number_text limit
