-- What the maker of each keyword requests, and how it ends.
use Rattle.std.specs.Prelude.{Bool, None, Option, Some, [], bytes_eq, codes, false, if◌then◌else◌, is_some, not, option_and_then, option_map, true, ℕ, ◌&&◌}
use Rattle.serde_json.specs.Data.{Data, Members, boolean, object}
use Rattle.serde_json.specs.Find.{as_array, get_member}
use Rattle.theory_definitions.specs.Drafts.{Draft, Vocabularies, draft_2020_12, draft_unknown}
use Rattle.theory_definitions.specs.Instance.{Text}
use Rattle.theory_definitions.specs.Making.{Script, a_keyword, nothing, then_end}
use Rattle.keyword_makers.specs.Making.{asks_for, list_script, makes, malformed, only_child}
use Rattle.keyword_makers.specs.Members.{names_of, values_below}
use Rattle.keyword_authoring.specs.Items.{count_in, items_count}
use Rattle.standard_applicators.specs.DependencyValues.{are_lists_of_texts, schema_names, wants_of}
use Rattle.standard_applicators.specs.Limits.{contains_in, refused_limit}
use Rattle.standard_applicators.specs.declared.applicator.StandardApplicator.{StandardApplicator}
use Rattle.standard_applicators.specs.declared.applicator.StandardApplicator.TheVariants.{Contains, Dependencies, DependentSchemas, LaterItems, ListedItems, NoLaterItems}

-- ---- the drafts

-- the drafts in which `items` continues after `prefixItems`, and `additionalItems` is no keyword
-- (Core 2020-12, 10.3.1.2)
abbrev pub has_prefix : Draft → Bool
has_prefix draft_2020_12 = true
has_prefix draft_unknown = true
has_prefix _ = false

-- ---- `contains`

-- A limit that is no natural number is refused at its own place.
abbrev pub unless_refused : Text → Option Data → Script StandardApplicator → Script StandardApplicator
unless_refused name None s = s
unless_refused name (Some d) s = malformed name d

abbrev pub contains_script : Draft → Members → Text → Script StandardApplicator
contains_script draft ms name =
    unless_refused (codes "minContains") (refused_limit draft (codes "minContains") ms)
    (unless_refused (codes "maxContains") (refused_limit draft (codes "maxContains") ms)
    (only_child name (Contains (record { keyword = contains_in draft ms }))))

-- ---- `dependentSchemas`

abbrev pub dependent_schemas_script : Text → Data → Script StandardApplicator
dependent_schemas_script name (object ms) = asks_for (values_below name (names_of ms)) (a_keyword (DependentSchemas (names_of ms)) [])
dependent_schemas_script name d = malformed name d

-- ---- `dependencies`. From 2019-09 on `dependentRequired` and `dependentSchemas` replace it; a
-- schema that still has it keeps its meaning. (Draft 7, 6.5.7; the meta-schemas of 2019-09 and
-- 2020-12 define its form)

abbrev pub dependencies_in : Members → Text → Data → Script StandardApplicator
dependencies_in ms name d =
    if are_lists_of_texts ms then asks_for (values_below name (schema_names ms)) (a_keyword (Dependencies (wants_of ms) (schema_names ms)) [])
    else malformed name d

abbrev pub dependencies_script : Text → Data → Script StandardApplicator
dependencies_script name (object ms) = dependencies_in ms name (object ms)
dependencies_script name d = malformed name d

-- ---- `items` and `additionalItems`

-- the number of schemas of `prefixItems`
abbrev pub prefix_length : Members → ℕ
prefix_length ms = count_in (option_and_then as_array (get_member (codes "prefixItems") ms))

-- the number of items that `items` with one schema skips
abbrev pub items_before : Draft → Members → ℕ
items_before draft ms = if has_prefix draft then prefix_length ms else 0

-- a list of schemas, in the drafts that allow a list (Core 2019-09, 9.3.1.1)
abbrev pub is_older_list : Draft → Data → Bool
is_older_list draft d = not (has_prefix draft) && is_some (as_array d)

abbrev pub items_script : Draft → Members → Text → Data → Script StandardApplicator
items_script draft ms name d = if is_older_list draft d then list_script ListedItems name d else only_child name (LaterItems (items_before draft ms))

-- the number of schemas in `items`, if it is a list in a draft that allows a list
abbrev pub listed_beside : Draft → Members → Option ℕ
listed_beside draft ms = if has_prefix draft then None else option_map items_count (option_and_then as_array (get_member (codes "items") ms))

abbrev pub is_false : Data → Bool
is_false (boolean b) = not b
is_false _ = false

-- Without such a list it makes nothing.
abbrev pub after_listed : Option ℕ → Text → Data → Script StandardApplicator
after_listed None name d = then_end nothing
after_listed (Some n) name d = if is_false d then makes (NoLaterItems (record { before = n })) else only_child name (LaterItems n)

abbrev pub additional_items_script : Draft → Members → Text → Data → Script StandardApplicator
additional_items_script draft ms name d = after_listed (listed_beside draft ms) name d

-- ---- all keywords; the members are those of the object that has the keyword

abbrev pub value_script : Draft → Members → Text → Data → Script StandardApplicator
value_script draft ms name d =
    if bytes_eq name (codes "contains") then contains_script draft ms name
    else (if bytes_eq name (codes "dependentSchemas") then dependent_schemas_script name d
    else (if bytes_eq name (codes "dependencies") then dependencies_script name d
    else (if bytes_eq name (codes "items") then items_script draft ms name d
    else (if bytes_eq name (codes "additionalItems") then additional_items_script draft ms name d else then_end nothing))))

abbrev pub member_script : Draft → Members → Text → Option Data → Script StandardApplicator
member_script draft ms name None = then_end nothing
member_script draft ms name (Some d) = value_script draft ms name d

-- the table owns no name
abbrev pub standard_script : Bool → Text → Members → Draft → Vocabularies → Bool → Script StandardApplicator
standard_script true name ms draft vocabularies formats = then_end nothing
standard_script false name ms draft vocabularies formats = member_script draft ms name (get_member name ms)
