-- The keyword that a member of a schema makes, by its name and value, and for draft 4's `minimum`
-- and `maximum` by the member beside it. A keyword is requested only in a draft that defines its
-- name: `const`, and `exclusiveMinimum` and `exclusiveMaximum` as keywords of their own, come with
-- draft 6, and `dependentRequired` with 2019-09. (Validation 2020-12, 6; of draft 4, 5)
use Rattle.std.specs.Prelude.{Bool, None, Option, Some, bytes_eq, codes, false, if◌then◌else◌, true}
use Rattle.serde_json.specs.Data.{Data, Members}
use Rattle.serde_json.specs.Find.{as_bool, get_member}
use Rattle.theory_definitions.specs.Drafts.{Draft, Vocabularies}
use Rattle.theory_definitions.specs.Instance.{Text}
use Rattle.theory_definitions.specs.Making.{Script, nothing, then_end}
use Rattle.keyword_makers.specs.ByObject.{MadeHere, by_object}
use Rattle.keyword_makers.specs.declared.by_object.ObjectKeyword.TheVariants as here
use Rattle.keyword_makers.specs.declared.by_value.Children.TheVariants as children
use Rattle.standard_basics.specs.declared.counts.CountKind.TheVariants as count
use Rattle.standard_assertions.specs.Assertions.{Shape}
use Rattle.standard_assertions.specs.Values.{count_made, dependents_made, enum_made, integers_of, is_draft_4, limit_made, multiple_made, size_made, type_made}
use Rattle.standard_assertions.specs.declared.assertion.Assertion.TheVariants as assertion
use Rattle.standard_assertions.specs.declared.limits.LimitKind.{LimitKind}
use Rattle.standard_assertions.specs.declared.limits.LimitKind.TheVariants as limit
use Rattle.standard_assertions.specs.declared.sizes.SizeKind.TheVariants as size

-- a keyword without children, or a refusal of its value
abbrev pub here_if : Option Shape → MadeHere Shape
here_if None = here.Malformed
here_if (Some m) = here.Keyword m children.Childless

-- ---- `minimum` and `maximum`

-- whether the truth value beside a limit of draft 4, if it is present, excludes the limit; None for
-- a value that is no truth value
abbrev pub excludes : Option Data → Option Bool
excludes None = Some false
excludes (Some d) = as_bool d

abbrev pub limit_beside : LimitKind → LimitKind → Text → Option Bool → Data → MadeHere Shape
limit_beside including excluding beside None d = here.MalformedBeside beside
limit_beside including excluding beside (Some false) d = here_if (limit_made including d)
limit_beside including excluding beside (Some true) d = here_if (limit_made excluding d)

-- a limit, which in draft 4 depends on the member of this name beside it
abbrev pub limit_here : LimitKind → LimitKind → Text → Draft → Members → Data → MadeHere Shape
limit_here including excluding beside draft object d =
    if is_draft_4 draft then limit_beside including excluding beside (excludes (get_member beside object)) d else here_if (limit_made including d)

-- ---- `uniqueItems`, which asserts nothing if it is false

abbrev pub unique_made : Option Bool → MadeHere Shape
unique_made None = here.Malformed
unique_made (Some true) = here.Keyword assertion.UniqueItems children.Childless
unique_made (Some false) = here.Nothing

-- ---- all assertions

abbrev pub made_of_counts : Draft → Text → Data → MadeHere Shape
made_of_counts draft name d =
    if bytes_eq name (codes "minLength") then here_if (count_made count.MinLength draft d)
    else (if bytes_eq name (codes "maxLength") then here_if (count_made count.MaxLength draft d)
    else (if bytes_eq name (codes "minProperties") then here_if (count_made count.MinProperties draft d) else here.Nothing))

abbrev pub made_of_lists : Draft → Text → Data → MadeHere Shape
made_of_lists draft name d =
    if bytes_eq name (codes "minItems") then here_if (size_made size.MinItems draft d)
    else (if bytes_eq name (codes "maxItems") then here_if (size_made size.MaxItems draft d)
    else (if bytes_eq name (codes "uniqueItems") then unique_made (as_bool d)
    else (if bytes_eq name (codes "maxProperties") then here_if (size_made size.MaxProperties draft d)
    else (if bytes_eq name (codes "dependentRequired") then here_if (dependents_made d) else made_of_counts draft name d))))

abbrev pub made_of_numbers : Draft → Members → Text → Data → MadeHere Shape
made_of_numbers draft object name d =
    if bytes_eq name (codes "minimum") then limit_here limit.Minimum limit.MinimumExcluded (codes "exclusiveMinimum") draft object d
    else (if bytes_eq name (codes "maximum") then limit_here limit.Maximum limit.MaximumExcluded (codes "exclusiveMaximum") draft object d
    else (if bytes_eq name (codes "exclusiveMinimum") then here_if (limit_made limit.ExclusiveMinimum d)
    else (if bytes_eq name (codes "exclusiveMaximum") then here_if (limit_made limit.ExclusiveMaximum d)
    else (if bytes_eq name (codes "multipleOf") then here_if (multiple_made d) else made_of_lists draft name d))))

abbrev pub made : Draft → Members → Text → Data → MadeHere Shape
made draft object name d =
    if bytes_eq name (codes "type") then here_if (type_made (integers_of draft) d)
    else (if bytes_eq name (codes "const") then here_if (Some (assertion.Const d))
    else (if bytes_eq name (codes "enum") then here_if (enum_made d) else made_of_numbers draft object name d))

-- the table owns no name
abbrev pub assertion_script : Bool → Text → Members → Draft → Vocabularies → Bool → Script Shape
assertion_script true name object draft vocabularies formats = then_end nothing
assertion_script false name object draft vocabularies formats = by_object made false name object draft vocabularies formats
