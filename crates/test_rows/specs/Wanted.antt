-- The answer that a row wants.
use Rattle.std.specs.Prelude.{Bool, None, Option, Some, codes, eqb, false, if◌then◌else◌, is_some, option_and_then, option_map, true, unwrap_or, ◌&&◌, ◌==◌, ◌||◌}
use Rattle.std.specs.List.{ends_with}
use Rattle.serde_json.specs.Data.{Data, Items, item, no_items}
use Rattle.serde_json.specs.Events.{items_len}
use Rattle.serde_json.specs.Find.{as_array, as_str, get}
use Rattle.theory_definitions.specs.Instance.{Text}
use Rattle.test_rows.specs.declared.call.Call.{Call}
use Rattle.test_rows.specs.declared.call.Call.TheVariants.{Check, Clones, Free, Map, Validator}
use Rattle.test_rows.specs.declared.call.MapQuestion.{MapQuestion}
use Rattle.test_rows.specs.declared.call.MapQuestion.TheVariants as by_map
use Rattle.test_rows.specs.declared.call.Question.{Question}
use Rattle.test_rows.specs.declared.call.Question.TheVariants as by_validator
use Rattle.test_rows.specs.Equality.{is_same}

-- a value is a list that passes a test
abbrev pub is_list : (Items → Bool) → Data → Bool
is_list test given = unwrap_or (option_map test (as_array given)) false

-- if a list is wanted, a list that passes a test with it; otherwise the same data
abbrev pub is_list_or_same : (Items → Items → Bool) → Data → Data → Bool
is_list_or_same test given want =
    unwrap_or (option_map (λ wanted. is_list (λ items. test items wanted) given) (as_array want)) (is_same given want)

-- the columns of an error begin with those that are named
abbrev pub begins_with : Items → Items → Bool
begins_with columns no_items = true
begins_with no_items (item name names) = false
begins_with (item column columns) (item name names) = is_same column name && begins_with columns names

-- the columns of an error begin with those that are named, and at least one is named
abbrev pub has_columns : Items → Items → Bool
has_columns columns no_items = false
has_columns columns (item name names) = begins_with columns (item name names)

-- an error with the wanted columns, and possibly more after them; or `null` if that is wanted
abbrev pub is_error : Data → Data → Bool
is_error = is_list_or_same has_columns

-- as many errors as are wanted, each with the wanted columns, in order
abbrev pub are_these_errors : Items → Items → Bool
are_these_errors no_items no_items = true
are_these_errors (item error errors) (item wanted more) = is_error error wanted && are_these_errors errors more
are_these_errors _ _ = false

abbrev pub are_errors : Data → Data → Bool
are_errors = is_list_or_same are_these_errors

-- the wanted count, and the wanted first and last error
abbrev pub is_this_count : Items → Items → Bool
is_this_count (item count (item first (item last no_items))) (item wanted (item wanted_first (item wanted_last no_items))) =
    is_same count wanted && (is_error first wanted_first && is_error last wanted_last)
is_this_count _ _ = false

abbrev pub is_count : Data → Data → Bool
is_count = is_list_or_same is_this_count

-- a value is in a list
abbrev pub is_in : Data → Items → Bool
is_in value no_items = false
is_in value (item other others) = is_same value other || is_in value others

-- each value of a list is in another list
abbrev pub are_in : Items → Items → Bool
are_in no_items all = true
are_in (item value values) all = is_in value all && are_in values all

-- as many names as are wanted, in any order: each name is wanted, and each wanted one is present
abbrev pub are_these_names : Items → Items → Bool
are_these_names names wanted = (items_len names == items_len wanted) && (are_in wanted names && are_in names wanted)

abbrev pub are_names : Data → Data → Bool
are_names = is_list_or_same are_these_names

-- nothing is wanted, or the member is present and has the wanted value
abbrev pub is_found : Option Data → Option Data → Bool
is_found found None = true
is_found None (Some wanted) = false
is_found (Some value) (Some wanted) = is_same value wanted

-- a member is the wanted one, if one is wanted
abbrev pub is_as_wanted : Text → Data → Data → Bool
is_as_wanted name given want = is_found (get name given) (get name want)

-- both texts are present, and the first ends with the second
abbrev pub ends_by : Option Text → Option Text → Bool
ends_by (Some text) (Some end) = ends_with eqb text end
ends_by _ _ = false

-- a text ends as wanted, if an end is wanted
abbrev pub ends_as : Option Text → Option Data → Bool
ends_as text None = true
ends_as text (Some end) = ends_by text (as_str end)

-- the text of a refusal ends as a row wants it
abbrev pub ends_as_wanted : Data → Data → Bool
ends_as_wanted given want = ends_as (option_and_then as_str (get (codes "text") given)) (get (codes "ends") want)

-- a refusal has the wanted number, place and text, and the wanted end of its text, as far as these
-- are wanted
abbrev pub is_refusal : Data → Data → Bool
is_refusal given want =
    is_some (get (codes "refused") given)
    && (is_as_wanted (codes "refused") given want
    && (is_as_wanted (codes "at") given want
    && (is_as_wanted (codes "text") given want
    && ends_as (option_and_then as_str (get (codes "text") given)) (get (codes "ends") want))))

-- the answer of a validator: errors and counts of errors are compared by the wanted columns, all
-- else as data
abbrev pub is_answer : Question → Data → Data → Bool
is_answer by_validator.Errors = are_errors
is_answer by_validator.IterErrors = are_errors
is_answer by_validator.First = is_error
is_answer by_validator.ErrorsCount = is_count
is_answer by_validator.Valid = is_same
is_answer by_validator.Evaluate = is_same
is_answer by_validator.List = is_same
is_answer by_validator.EvaluationErrors = is_same
is_answer by_validator.ListCount = is_same
is_answer by_validator.Build = is_same
is_answer by_validator.Draft = is_same
is_answer by_validator.Entries = is_same
is_answer by_validator.Monotone = is_same

-- the answer of a map: names are compared in any order, errors by the wanted columns, a draft as
-- data
abbrev pub is_map_answer : MapQuestion → Data → Data → Bool
is_map_answer by_map.Names = are_names
is_map_answer by_map.Errors = are_errors
is_map_answer by_map.Draft = is_same

-- the answer to a call if no refusal is wanted
abbrev pub is_answer_of : Call → Data → Data → Bool
is_answer_of (Validator question) = is_answer question
is_answer_of (Clones question) = is_answer question
is_answer_of (Map question) = is_map_answer question
is_answer_of Free = are_errors
is_answer_of Check = is_same

-- the answer to a call is the wanted one: a refusal if one is wanted, and otherwise the result of
-- the call
abbrev pub is_wanted : Call → Data → Data → Bool
is_wanted call given want =
    if is_some (get (codes "refused") want) then is_refusal given want else is_answer_of call given want
