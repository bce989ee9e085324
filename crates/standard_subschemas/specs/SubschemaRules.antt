-- The rules for reading a document: places, drafts, identifiers, names, subschemas, vocabularies
-- and known keywords. (Core 2020-12, sections 8.1 and 8.2)
use Rattle.std.specs.List.{after_first, before_first, list_any}
use Rattle.std.specs.Prelude.{Bool, Err, List, None, Ok, Option, Result, Some, [], bytes_eq, codes, false, flat_map, if◌then◌else◌}
use Rattle.std.specs.Prelude.{is_some, option_and_then, true, ℕ, ◌&&◌, ◌++◌, ◌+◌, ◌==◌, ◌||◌, ◌∷◌}
use Rattle.serde_json.specs.Data.{Data, Items, Members, array, boolean, item, member, no_items, no_members, null, number, object, string}
use Rattle.serde_json.specs.Find.{as_str, get}
use Rattle.theory_definitions.specs.Instance.{Place, Subject, Text, a_name, a_value, to_item, to_member}
use Rattle.theory_definitions.specs.Drafts.{Draft, SchemaPlace, Vocabularies, applicator_vocabulary, content_vocabulary, core_vocabulary}
use Rattle.theory_definitions.specs.Drafts.{draft_2019_09, draft_2020_12, draft_4, draft_6, draft_7, draft_unknown}
use Rattle.theory_definitions.specs.Drafts.{format_annotation_vocabulary, metadata_vocabulary, ref_stands_alone, unevaluated_vocabulary}
use Rattle.theory_definitions.specs.Drafts.{validation_vocabulary}
use Rattle.standard_subschemas.specs.declared.rules.Rule.{Rule}
use Rattle.standard_subschemas.specs.declared.rules.Rule.TheVariants.{Narrow, Standard}
use Rattle.standard_subschemas.specs.StandardNames as standard

-- the text under a name
abbrev pub text_member : Text → Data → Option Text
text_member k d = option_and_then as_str (get k d)

-- ---- places

abbrev pub data_of : Option Subject → Option Data
data_of None = None
data_of (Some (a_value d)) = Some d
data_of (Some (a_name k)) = None

-- the root of the first document, whose number is 0
abbrev pub root_place : SchemaPlace
root_place = record { document = 0; path = [] }

-- ---- drafts

abbrev pub is_uri : Text → Text → Bool
is_uri uri t = bytes_eq t uri || bytes_eq t (uri ++ codes "#")

-- the draft that a URI names
abbrev pub draft_of_uri : Text → Draft
draft_of_uri t =
    if is_uri (codes "http://json-schema.org/draft-04/schema") t then draft_4
    else (if is_uri (codes "http://json-schema.org/draft-06/schema") t then draft_6
    else (if is_uri (codes "http://json-schema.org/draft-07/schema") t then draft_7
    else (if is_uri (codes "https://json-schema.org/draft/2019-09/schema") t then draft_2019_09
    else (if is_uri (codes "https://json-schema.org/draft/2020-12/schema") t then draft_2020_12
    else (if is_uri (codes "https://json-schema.org/schema") t then draft_2020_12 else draft_unknown)))))

abbrev pub named_or : Draft → Option Text → Draft
named_or d None = d
named_or d (Some t) = draft_of_uri t

-- the draft that a value's `$schema` names, or else the given one
abbrev pub detected : Draft → Data → Draft
detected d v = named_or d (text_member (codes "$schema") v)

-- an unknown draft is refused
abbrev pub unless_unknown : Draft → Result Draft Text
unless_unknown draft_unknown = Err (codes "this resolver does not know the draft of the schema")
unless_unknown d = Ok d

abbrev pub root_draft : Data → Result Draft Text
root_draft v = unless_unknown (detected draft_2020_12 v)

-- ---- identifiers

-- the text, unless it is only a fragment
abbrev pub unless_fragment : Option Text → Option Text
unless_fragment None = None
unless_fragment (Some []) = Some []
unless_fragment (Some (x ∷ xs)) = if x == 35 then None else Some (x ∷ xs)

abbrev pub identifier_name : Draft → Text
identifier_name draft_4 = codes "id"
identifier_name _ = codes "$id"

-- the identifier of a schema; in drafts 4 to 7 a schema with a reference has none
abbrev pub identifier : Draft → Data → Option Text
identifier d v = if ref_stands_alone d && is_some (get (codes "$ref") v) then None else unless_fragment (text_member (identifier_name d) v)

abbrev pub without_fragment : Text → Text
without_fragment = before_first (λ x. x == 35)

-- the text after the first `#`
abbrev pub fragment_of : Text → Text
fragment_of = after_first (λ x. x == 35)

-- the URI of a document in a default draft: the root's identifier without its fragment, or a
-- default URI
abbrev pub document_uri : Draft → Data → Text
document_uri d v = elim (identifier (detected d v) v) [ None ↦ codes "json-schema:///" | Some t ↦ without_fragment t ]

-- ---- names

-- a fragment that is neither empty nor a pointer
abbrev pub plain_fragment : Text → Option Text
plain_fragment [] = None
plain_fragment (x ∷ xs) = if x == 47 then None else Some (x ∷ xs)

-- the fragment of an identifier as a name; a schema with a reference has none (draft-07 Core,
-- sections 8.2.3 and 8.3)
abbrev pub name_in_identifier : Draft → Data → Option Text
name_in_identifier d v = if is_some (get (codes "$ref") v) then None else option_and_then (λ t. plain_fragment (fragment_of t))
    (text_member (identifier_name d) v)

-- the name of a schema: in drafts 4 to 7 in the identifier, later under `$anchor` (Core 2019-09,
-- section 8.2.3)
abbrev pub standard_name : Draft → Data → Option Text
standard_name d v = if ref_stands_alone d then name_in_identifier d v else text_member (codes "$anchor") v

-- the dynamic name of a schema, from 2020-12 on; an unknown draft counts as 2020-12 (Core 2020-12,
-- section 8.2.2)
abbrev pub standard_dynamic_name : Draft → Data → Option Text
standard_dynamic_name draft_2020_12 v = text_member (codes "$dynamicAnchor") v
standard_dynamic_name draft_unknown v = text_member (codes "$dynamicAnchor") v
standard_dynamic_name _ v = None

-- the name of a schema by a rule; by the narrow one it is the same in all drafts
abbrev pub plain_name : Rule → Draft → Data → Option Text
plain_name Narrow d v = text_member (codes "$anchor") v
plain_name Standard d v = standard_name d v

-- the dynamic name of a schema by a rule; by the narrow one it is the same in all drafts
abbrev pub dynamic_name : Rule → Draft → Data → Option Text
dynamic_name Narrow d v = text_member (codes "$dynamicAnchor") v
dynamic_name Standard d v = standard_dynamic_name d v

-- ---- subschemas

abbrev pub is_schema : Data → Bool
is_schema (object ms) = true
is_schema (boolean b) = true
is_schema (null) = false
is_schema (number n) = false
is_schema (string t) = false
is_schema (array ds) = false

abbrev pub place_if : Bool → Place → List Place → List Place
place_if true p ps = p ∷ ps
place_if false p ps = ps

abbrev pub members_below : Text → Members → List Place
members_below k no_members = []
members_below k (member l d ms) = place_if (is_schema d) (to_member k ∷ to_member l ∷ []) (members_below k ms)

abbrev pub items_below : Text → ℕ → Items → List Place
items_below k i no_items = []
items_below k i (item d ds) = place_if (is_schema d) (to_member k ∷ to_item i ∷ []) (items_below k (i + 1) ds)

-- the paths of the subschemas under a keyword: the members of an object, the items of a list, or
-- the value itself
abbrev pub below_object : Text → Option Data → List Place
below_object k (Some (object ms)) = members_below k ms
below_object k _ = []

abbrev pub below_list : Text → Option Data → List Place
below_list k (Some (array ds)) = items_below k 0 ds
below_list k _ = []

abbrev pub below_value : Text → Option Data → List Place
below_value k None = []
below_value k (Some d) = place_if (is_schema d) (to_member k ∷ []) []

abbrev pub names_of_objects : Rule → Draft → List Text
names_of_objects Narrow d = codes "$defs" ∷ codes "definitions" ∷ codes "properties" ∷ []
names_of_objects Standard d = standard.names_of_objects d

abbrev pub names_of_lists : Rule → Draft → List Text
names_of_lists Narrow d = codes "allOf" ∷ codes "anyOf" ∷ codes "oneOf" ∷ codes "prefixItems" ∷ []
names_of_lists Standard d = standard.names_of_lists d

abbrev pub names_of_values : Rule → Draft → List Text
names_of_values Narrow d = codes "not" ∷ codes "if" ∷ codes "then" ∷ codes "else" ∷ codes "items" ∷ codes "propertyNames" ∷ []
names_of_values Standard d = standard.names_of_values d

-- the paths of the subschemas inside a schema of a draft
abbrev pub subschemas : Rule → Draft → Data → List Place
subschemas rule draft d = flat_map (λ k. below_object k (get k d)) (names_of_objects rule draft)
    ++ flat_map (λ k. below_list k (get k d)) (names_of_lists rule draft)
    ++ flat_map (λ k. below_value k (get k d)) (names_of_values rule draft)

abbrev pub subschemas_of : Rule → Draft → Option Data → List Place
subschemas_of rule draft None = []
subschemas_of rule draft (Some d) = subschemas rule draft d

-- ---- vocabularies and known keywords

-- the standard's vocabularies that are in force in a draft unless a schema requires others; older
-- drafts have none
abbrev pub draft_vocabularies : Draft → Vocabularies
draft_vocabularies draft_4 = []
draft_vocabularies draft_6 = []
draft_vocabularies draft_7 = []
draft_vocabularies draft_2019_09 = core_vocabulary ∷ applicator_vocabulary ∷ validation_vocabulary ∷ metadata_vocabulary
    ∷ content_vocabulary ∷ []
draft_vocabularies draft_2020_12 = unevaluated_vocabulary ∷ format_annotation_vocabulary ∷ core_vocabulary ∷ applicator_vocabulary
    ∷ validation_vocabulary ∷ metadata_vocabulary ∷ content_vocabulary ∷ []
draft_vocabularies draft_unknown = unevaluated_vocabulary ∷ format_annotation_vocabulary ∷ core_vocabulary ∷ applicator_vocabulary
    ∷ validation_vocabulary ∷ metadata_vocabulary ∷ content_vocabulary ∷ []

-- the built-in keywords, and the names in schemas that are not keywords themselves
abbrev pub known_keywords : List Text
known_keywords =
    codes "type" ∷ codes "const" ∷ codes "enum" ∷ codes "minimum" ∷ codes "maximum" ∷ codes "exclusiveMinimum" ∷ codes "exclusiveMaximum"
    ∷ codes "multipleOf"
    ∷ codes "minLength" ∷ codes "maxLength" ∷ codes "minItems" ∷ codes "maxItems" ∷ codes "minProperties" ∷ codes "maxProperties"
    ∷ codes "required" ∷ codes "dependentRequired"
    ∷ codes "pattern" ∷ codes "format" ∷ codes "contentEncoding" ∷ codes "contentMediaType" ∷ codes "contentSchema" ∷ codes "uniqueItems"
    ∷ codes "properties" ∷ codes "patternProperties" ∷ codes "additionalProperties" ∷ codes "propertyNames" ∷ codes "items"
    ∷ codes "prefixItems" ∷ codes "additionalItems" ∷ codes "contains"
    ∷ codes "dependencies" ∷ codes "dependentSchemas" ∷ codes "allOf" ∷ codes "anyOf" ∷ codes "oneOf" ∷ codes "not" ∷ codes "if"
    ∷ codes "unevaluatedProperties" ∷ codes "unevaluatedItems" ∷ codes "$ref" ∷ codes "$recursiveRef" ∷ codes "$dynamicRef"
    ∷ codes "$schema" ∷ codes "$id" ∷ codes "id" ∷ codes "$anchor" ∷ codes "$dynamicAnchor" ∷ codes "$recursiveAnchor" ∷ codes "$defs"
    ∷ codes "definitions" ∷ codes "$comment" ∷ codes "$vocabulary" ∷ codes "then" ∷ codes "else" ∷ []

-- whether a draft knows a name; by the narrow rule all drafts know the same names
abbrev pub is_known : Rule → Draft → Text → Bool
is_known Narrow d name = list_any (bytes_eq name) known_keywords
is_known Standard d name = standard.is_known_in d name
