-- What the table does with a keyword of the standard, draft by draft. The engine asks the table
-- only for names that the draft has (`schema_drafts`), and compiles references itself. The table
-- ignores no keyword that asserts or applies subschemas: if it does not make it, it refuses the
-- schema. (Core 2020-12, 10 and 11; Validation 2020-12, 6 to 8; Core and Validation 2019-09;
-- drafts 4, 6 and 7)
use Rattle.std.specs.Prelude.{Bool, List, None, Option, Some, [], bytes_eq, codes, false, if◌then◌else◌, not, ◌&&◌, ◌++◌, ◌||◌, ◌∷◌}
use Rattle.serde_json.specs.Data.{Data, Members}
use Rattle.serde_json.specs.Find.{get_member}
use Rattle.theory_definitions.specs.Drafts.{Draft}
use Rattle.theory_definitions.specs.Instance.{Text}
use Rattle.keyword_authoring.specs.Texts.{is_among}
use Rattle.standard_basics.specs.Makers.{has_prefix, is_older_list}
use Rattle.standard_keywords.specs.declared.treatment.Treatment.{Treatment}
use Rattle.standard_keywords.specs.declared.treatment.Treatment.TheVariants.{Applied, Asserted, Basic, Formatted, Gated, Refused, Silent}

-- the keywords that `standard_assertions` makes (Validation 2020-12, 6)
abbrev pub asserted_names : List Text
asserted_names =
    codes "type" ∷ codes "const" ∷ codes "enum"
    ∷ codes "multipleOf" ∷ codes "minimum" ∷ codes "maximum" ∷ codes "exclusiveMinimum" ∷ codes "exclusiveMaximum"
    ∷ codes "minItems" ∷ codes "maxItems" ∷ codes "uniqueItems" ∷ codes "maxProperties" ∷ codes "dependentRequired"
    ∷ codes "minLength" ∷ codes "maxLength" ∷ codes "minProperties" ∷ []

-- the keywords that `standard_basics` makes: they assert about texts and members (Validation
-- 2020-12, 6.3.3 and 6.5.3) or apply subschemas (Core 2020-12, 10)
abbrev pub basic_names : List Text
basic_names =
    codes "pattern" ∷ codes "required"
    ∷ codes "properties" ∷ codes "propertyNames" ∷ codes "prefixItems" ∷ codes "items"
    ∷ codes "allOf" ∷ codes "anyOf" ∷ codes "oneOf" ∷ codes "not" ∷ codes "if" ∷ []

-- the keywords that `standard_applicators` makes in each draft that has them: `contains` and
-- `dependentSchemas` (Core 2020-12, 10.3.1.3 and 10.2.2.4); and `dependencies` (draft 7, 6.5.7),
-- which from 2019-09 on no section defines, but which the meta-schemas keep for older schemas
abbrev pub applied_names : List Text
applied_names = codes "contains" ∷ codes "dependentSchemas" ∷ codes "dependencies" ∷ []

-- whether there is a value and it is a list, in a draft before 2020-12
abbrev pub is_any_older_list : Draft → Option Data → Bool
is_any_older_list draft None = false
is_any_older_list draft (Some d) = is_older_list draft d

-- whether the member is `items` with such a list
abbrev pub is_older_items : Draft → Members → Text → Bool
is_older_items draft object name = bytes_eq name (codes "items") && is_any_older_list draft (get_member name object)

-- `standard_applicators` makes the keywords above. Before 2020-12, it also makes `additionalItems`
-- (draft 7, 6.4.2) and an `items` whose value is a list, with one schema for each place (draft 7,
-- 6.4.1; Core 2019-09, 9.3.1.1).
abbrev pub is_applied : Draft → Members → Text → Bool
is_applied draft object name =
    is_among applied_names name || (is_older_items draft object name || (bytes_eq name (codes "additionalItems") && not (has_prefix draft)))

-- the keywords that `standard_pattern_properties` makes: they apply subschemas to members whose
-- names match, or do not match (Core 2020-12, 10.3.2.2 and 10.3.2.3)
abbrev pub gated_names : List Text
gated_names = codes "patternProperties" ∷ codes "additionalProperties" ∷ []

-- the keywords that `standard_formats` makes: `format`, which asserts if formats are checked
-- (Validation 2020-12, 7), and two that assert in draft 7 alone (draft 7, 8.3 and 8.4)
abbrev pub formatted_names : List Text
formatted_names = codes "format" ∷ codes "contentEncoding" ∷ codes "contentMediaType" ∷ []

-- the keywords that assert nothing: `contentSchema` (Validation 2020-12, 8.5), and
-- `additionalItems` in drafts that no longer have it
abbrev pub is_silent : Draft → Text → Bool
is_silent draft name = bytes_eq name (codes "contentSchema") || (bytes_eq name (codes "additionalItems") && has_prefix draft)

-- what the table does with a member of an object, given its name
abbrev pub treated : Draft → Members → Text → Treatment
treated draft object name =
    if is_among asserted_names name then Asserted
    else (if is_applied draft object name then Applied
    else (if is_among gated_names name then Gated
    else (if is_among basic_names name then Basic
    else (if is_among formatted_names name then Formatted else (if is_silent draft name then Silent else Refused)))))

-- the text of a refusal
abbrev pub refusal_text : Text → Text
refusal_text name = codes "\"" ++ (name ++ codes "\" is not supported")
