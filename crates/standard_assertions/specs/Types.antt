-- The type of a value, as its draft defines it. In draft 4 an integer is a number that is written
-- with no fraction and no exponent. From draft 6 on it is a number whose fraction is zero, so that
-- 1.0 is one. A name counts as a text. (Core 2020-12, 4.2.1; Validation 2020-12, 6.1.1; Core of
-- draft 4, 3.5; Validation of draft 6, 6.25)
use Rattle.std.specs.List.{list_any}
use Rattle.std.specs.Prelude.{Bool, List, false, option_map, unwrap_or}
use Rattle.serde_json.specs.Data.{Data}
use Rattle.serde_json.specs.Find.{as_number}
use Rattle.theory_definitions.specs.Instance.{Subject}
use Rattle.schema_reports.specs.Owned.{value_of}
use Rattle.json_values.specs.Numbers.{is_whole}
use Rattle.standard_basics.specs.TypeNames as written
use Rattle.standard_basics.specs.declared.type_names.TypeName.{TypeName}
use Rattle.standard_basics.specs.declared.type_names.TypeName.TheVariants as type
use Rattle.standard_assertions.specs.declared.types.Integers.{Integers}
use Rattle.standard_assertions.specs.declared.types.Integers.TheVariants as integers

-- a number with no fraction
abbrev pub is_integer_valued : Data → Bool
is_integer_valued d = unwrap_or (option_map is_whole (as_number d)) false

abbrev pub fits : Integers → TypeName → Subject → Bool
fits integers.Written t s = written.fits t s
fits integers.Valued type.Integer s = is_integer_valued (value_of s)
fits integers.Valued type.Null s = written.fits type.Null s
fits integers.Valued type.Boolean s = written.fits type.Boolean s
fits integers.Valued type.Number s = written.fits type.Number s
fits integers.Valued type.Text s = written.fits type.Text s
fits integers.Valued type.Array s = written.fits type.Array s
fits integers.Valued type.Object s = written.fits type.Object s

-- whether the value has one of the types
abbrev pub fits_one : Integers → List TypeName → Subject → Bool
fits_one integers ts s = list_any (λ t. fits integers t s) ts
