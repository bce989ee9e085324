-- The keyword that a value makes, as its draft reads the value: none if the value is malformed.
-- (Validation 2020-12, 6; of drafts 4 and 6, 5 and 6)
use Rattle.std.specs.Prelude.{Bool, None, Option, Some, false, if◌then◌else◌, is_some, option_and_then, option_map, ℕ, ◌&&◌, true}
use Rattle.serde_json.specs.Data.{Data, Items, Members, Num, array, item, member, no_items, no_members, string, unsigned}
use Rattle.serde_json.specs.Find.{as_array, as_number, as_object, as_str, as_u64}
use Rattle.theory_definitions.specs.Drafts.{Draft, draft_4}
use Rattle.json_values.specs.Numbers.{less, natural_of}
use Rattle.standard_basics.specs.declared.counts.CountKind.{CountKind}
use Rattle.standard_basics.specs.TypeNames.{type_named, types_of}
use Rattle.standard_assertions.specs.Assertions.{Shape}
use Rattle.standard_assertions.specs.declared.assertion.Assertion.TheVariants as assertion
use Rattle.standard_assertions.specs.declared.limits.LimitKind.{LimitKind}
use Rattle.standard_assertions.specs.declared.sizes.SizeKind.{SizeKind}
use Rattle.standard_assertions.specs.declared.types.Integers.{Integers}
use Rattle.standard_assertions.specs.declared.types.Integers.TheVariants as integers

-- whether the draft takes numbers as they are written: in draft 4, 1.0 is no integer and no limit
-- of sizes or counts
abbrev pub is_draft_4 : Draft → Bool
is_draft_4 draft_4 = true
is_draft_4 _ = false

-- ---- `type`

abbrev pub integers_of : Draft → Integers
integers_of draft = if is_draft_4 draft then integers.Written else integers.Valued

-- one name, or a list of names; an empty list is accepted, and then no instance has one of its
-- types
abbrev pub type_made : Integers → Data → Option Shape
type_made integers (string t) = option_map (assertion.Type integers) (type_named t)
type_made integers (array ds) = option_map (assertion.Types integers) (types_of ds)
type_made integers _ = None

-- ---- `enum`, whose value is a list; an empty one is accepted, and no instance equals one of its
-- values

abbrev pub enum_made : Data → Option Shape
enum_made d = if is_some (as_array d) then Some (assertion.Enum d) else None

-- ---- numbers

abbrev pub limit_made : LimitKind → Data → Option Shape
limit_made kind d = option_map (assertion.Limit kind) (as_number d)

-- a divisor is above 0
abbrev pub divisor : Num → Option Num
divisor x = if less (unsigned 0) x then Some x else None

abbrev pub multiple_made : Data → Option Shape
multiple_made d = option_map assertion.MultipleOf (option_and_then divisor (as_number d))

-- ---- sizes and counts

-- a limit of sizes or counts is a natural number in any notation, so that 2.0 is 2; in draft 4 it
-- must be written as a natural number
abbrev pub size_limit : Draft → Data → Option ℕ
size_limit draft d = if is_draft_4 draft then option_and_then as_u64 (as_number d) else option_and_then natural_of (as_number d)

abbrev pub size_made : SizeKind → Draft → Data → Option Shape
size_made kind draft d = option_map (assertion.Size kind) (size_limit draft d)

abbrev pub count_made : CountKind → Draft → Data → Option Shape
count_made kind draft d = option_map (assertion.Count kind) (size_limit draft d)

-- ---- `dependentRequired`

abbrev pub are_texts : Items → Bool
are_texts no_items = true
are_texts (item d ds) = is_some (as_str d) && are_texts ds

abbrev pub is_any_text_list : Option Items → Bool
is_any_text_list None = false
is_any_text_list (Some ds) = are_texts ds

abbrev pub are_text_lists : Members → Bool
are_text_lists no_members = true
are_text_lists (member k d ms) = is_any_text_list (as_array d) && are_text_lists ms

-- an object whose members are lists of texts
abbrev pub has_text_lists : Option Members → Bool
has_text_lists None = false
has_text_lists (Some ms) = are_text_lists ms

abbrev pub dependents_made : Data → Option Shape
dependents_made d = if has_text_lists (as_object d) then Some (assertion.DependentRequired d) else None
