-- The value of `dependencies`: the names that its members require, each by a list, and the names of
-- the members whose values are schemas. (Validation draft 7, 6.5.7)
use Rattle.std.specs.Prelude.{Bool, List, None, Option, Some, [], if◌then◌else◌, is_some, true, ◌++◌, ◌&&◌, ◌∷◌}
use Rattle.serde_json.specs.Data.{Items, Members, item, member, no_items, no_members}
use Rattle.serde_json.specs.Find.{as_array, as_str}
use Rattle.theory_definitions.specs.Instance.{Text}

-- ---- each list is a list of texts

abbrev pub are_texts : Items → Bool
are_texts no_items = true
are_texts (item d ds) = is_some (as_str d) && are_texts ds

abbrev pub is_list_of_texts : Option Items → Bool
is_list_of_texts None = true
is_list_of_texts (Some ds) = are_texts ds

abbrev pub are_lists_of_texts : Members → Bool
are_lists_of_texts no_members = true
are_lists_of_texts (member k d ms) = is_list_of_texts (as_array d) && are_lists_of_texts ms

-- ---- the names that a member requires if its value is a list

abbrev pub with_want : Text → Option Text → List (Text × Text) → List (Text × Text)
with_want k None wants = wants
with_want k (Some wanted) wants = (k, wanted) ∷ wants

abbrev pub text_wants : Text → Items → List (Text × Text)
text_wants k no_items = []
text_wants k (item d ds) = with_want k (as_str d) (text_wants k ds)

abbrev pub list_wants : Text → Option Items → List (Text × Text)
list_wants k None = []
list_wants k (Some ds) = text_wants k ds

abbrev pub wants_of : Members → List (Text × Text)
wants_of no_members = []
wants_of (member k d ms) = list_wants k (as_array d) ++ wants_of ms

-- ---- the members whose values are schemas: those that are no lists

abbrev pub schema_names : Members → List Text
schema_names no_members = []
schema_names (member k d ms) = if is_some (as_array d) then schema_names ms else k ∷ schema_names ms
