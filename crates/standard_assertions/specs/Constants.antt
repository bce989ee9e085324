-- `const` accepts what equals its value, and `enum` what equals one of its values. `uniqueItems`
-- accepts a list with no two equal items, and whatever is no list. Values are compared as JSON
-- values, and a name counts as a text.
-- (Validation 2020-12, 6.1.2, 6.1.3 and 6.4.3; Core 2020-12, 4.2.2)
use Rattle.std.specs.Prelude.{Bool, None, Option, Some, [], codes, true, ◌++◌}
use Rattle.serde_json.specs.Data.{Data, Items, item, no_items}
use Rattle.serde_json.specs.Find.{as_array}
use Rattle.serde_json.specs.Written.{compact_text}
use Rattle.theory_definitions.specs.Instance.{Subject, Text}
use Rattle.theory_definitions.specs.Meaning.{subject_text}
use Rattle.schema_reports.specs.Owned.{value_of}
use Rattle.json_values.specs.Equality.{all_distinct, equal, has_equal}

-- ---- `const`

abbrev pub is_constant : Data → Subject → Bool
is_constant constant s = equal constant (value_of s)

-- the error shows the constant
abbrev pub constant_text : Data → Text
constant_text constant = compact_text constant ++ codes " was expected"

-- ---- `enum`, whose value is a list

-- the items of a list, and none of any other value
abbrev pub listed : Option Items → Items
listed None = no_items
listed (Some ds) = ds

abbrev pub items_in : Data → Items
items_in d = listed (as_array d)

abbrev pub is_listed : Data → Subject → Bool
is_listed values s = has_equal (value_of s) (items_in values)

-- the words before a value: ` or ` before the last one, and `, ` before the others
abbrev pub parting : Items → Text
parting no_items = codes " or "
parting (item d ds) = codes ", "

abbrev pub more_values : Items → Text
more_values no_items = []
more_values (item d ds) = parting ds ++ compact_text d ++ more_values ds

abbrev pub values_text : Items → Text
values_text no_items = []
values_text (item d ds) = compact_text d ++ more_values ds

abbrev pub listed_text : Data → Subject → Text
listed_text values s = subject_text s ++ codes " is not one of " ++ values_text (items_in values)

-- ---- `uniqueItems`

abbrev pub are_any_distinct : Option Items → Bool
are_any_distinct None = true
are_any_distinct (Some ds) = all_distinct ds

abbrev pub has_distinct_items : Subject → Bool
has_distinct_items s = are_any_distinct (as_array (value_of s))

abbrev pub distinct_text : Subject → Text
distinct_text s = subject_text s ++ codes " has non-unique elements"
