-- What the maker of each keyword requests, and how it ends.
use Rattle.std.specs.Prelude.{Bool, List, None, Option, Some, [], bytes_eq, codes, false, if◌then◌else◌, is_some, not, option_and_then, option_map, true, ℕ, ◌&&◌}
use Rattle.serde_json.specs.Data.{Data, Items, Members, array, item, no_items, object, string}
use Rattle.serde_json.specs.Written.{compact_text, has_float}
use Rattle.serde_json.specs.Find.{as_array, as_number, as_u64, get_member}
use Rattle.theory_definitions.specs.Instance.{Text}
use Rattle.theory_definitions.specs.Drafts.{Draft, Vocabularies, draft_2020_12, draft_unknown}
use Rattle.theory_definitions.specs.Making.{Script, a_keyword, nothing, then_end}
use Rattle.keyword_authoring.specs.Items.{count_in}
use Rattle.schema_applicators.specs.ApplicatorShape.{has_all_of, has_any_of, has_if, has_not, has_one_of}
use Rattle.keyword_makers.specs.Branches.{has_branch, if_script}
use Rattle.keyword_makers.specs.Members.{names_of, values_below}
use Rattle.keyword_makers.specs.Making.{asks_for, list_script, makes_if, malformed, only_child}
use Rattle.standard_basics.specs.TypeNames.{both, type_named, types_of}
use Rattle.standard_basics.specs.BasicShape.{BasicShape, applies, has_count, has_items, has_pattern, has_prefix_items, has_properties, has_property_names, has_type, has_types, requires}
use Rattle.standard_basics.specs.declared.counts.CountKind.{CountKind}
use Rattle.standard_basics.specs.declared.counts.CountKind.TheVariants.{MaxLength, MinLength, MinProperties}

-- ---- type

abbrev pub type_shape : Data → Option BasicShape
type_shape (string t) = option_map has_type (type_named t)
type_shape (array ds) = option_map has_types (types_of ds)
type_shape _ = None

-- ---- required

abbrev pub text_of : Data → Option Text
text_of (string t) = Some t
text_of _ = None

abbrev pub texts_of : Items → Option (List Text)
texts_of no_items = Some []
texts_of (item d ds) = both (text_of d) (texts_of ds)

abbrev pub required_shape : Data → Option BasicShape
required_shape (array ds) = option_map requires (texts_of ds)
required_shape _ = None

-- ---- properties

abbrev pub properties_script : Text → Data → Script BasicShape
properties_script name (object ms) = asks_for (values_below name (names_of ms)) (a_keyword (has_properties (names_of ms)) [])
properties_script name d = malformed name d

-- ---- pattern

abbrev pub pattern_shape : Data → Option BasicShape
pattern_shape (string t) = Some (has_pattern t)
pattern_shape _ = None

-- ---- minLength, maxLength, minProperties

abbrev pub count_shape : CountKind → Data → Option BasicShape
count_shape kind d = option_map (has_count kind) (option_and_then as_u64 (as_number d))

-- ---- items

-- the drafts in which `items` continues after `prefixItems` (Core 2020-12, 10.3.1.2)
abbrev pub has_prefix : Draft → Bool
has_prefix draft_2020_12 = true
has_prefix draft_unknown = true
has_prefix _ = false

-- the number of schemas of `prefixItems`
abbrev pub prefix_length : Members → ℕ
prefix_length ms = count_in (option_and_then as_array (get_member (codes "prefixItems") ms))

-- the number of items that `items` skips
abbrev pub items_before : Draft → Members → ℕ
items_before draft ms = if has_prefix draft then prefix_length ms else 0

-- in the other drafts, a list makes no keyword
abbrev pub is_older_list : Draft → Data → Bool
is_older_list draft d = not (has_prefix draft) && is_some (as_array d)

abbrev pub items_script : Draft → Members → Text → Data → Script BasicShape
items_script draft ms name d = if is_older_list draft d then then_end nothing else only_child name (has_items (items_before draft ms))

-- ---- all of them; the object is the one whose member is made

abbrev pub schema_script : Draft → Members → Text → Data → Script BasicShape
schema_script draft ms name d =
    if bytes_eq name (codes "allOf") then list_script (λ n. applies (has_all_of n)) name d
    else (if bytes_eq name (codes "anyOf") then list_script (λ n. applies (has_any_of n)) name d
    else (if bytes_eq name (codes "oneOf") then list_script (λ n. applies (has_one_of n)) name d
    else (if bytes_eq name (codes "prefixItems") then list_script has_prefix_items name d
    else (if bytes_eq name (codes "items") then items_script draft ms name d
    else (if bytes_eq name (codes "not") then only_child name (applies (has_not (compact_text d) (has_float d)))
    else (if bytes_eq name (codes "propertyNames") then only_child name has_property_names
    else (if bytes_eq name (codes "if") then if_script (λ accepted refused. applies (has_if accepted refused)) name (has_branch (codes "then") ms) (has_branch (codes "else") ms) else then_end nothing)))))))

abbrev pub later_script : Draft → Members → Text → Data → Script BasicShape
later_script draft ms name d =
    if bytes_eq name (codes "minLength") then makes_if name d (count_shape MinLength d)
    else (if bytes_eq name (codes "maxLength") then makes_if name d (count_shape MaxLength d)
    else (if bytes_eq name (codes "minProperties") then makes_if name d (count_shape MinProperties d)
    else (if bytes_eq name (codes "pattern") then makes_if name d (pattern_shape d) else schema_script draft ms name d)))

abbrev pub value_script : Draft → Members → Text → Data → Script BasicShape
value_script draft ms name d =
    if bytes_eq name (codes "type") then makes_if name d (type_shape d)
    else (if bytes_eq name (codes "required") then makes_if name d (required_shape d)
    else (if bytes_eq name (codes "properties") then properties_script name d else later_script draft ms name d))

abbrev pub member_script : Draft → Members → Text → Option Data → Script BasicShape
member_script draft ms name None = then_end nothing
member_script draft ms name (Some d) = value_script draft ms name d

abbrev pub basic_script : Bool → Text → Members → Draft → Vocabularies → Bool → Script BasicShape
basic_script true name ms draft vocabularies formats = then_end nothing
basic_script false name ms draft vocabularies formats = member_script draft ms name (get_member name ms)
