-- The keywords that evaluate no schema: the name in their errors, the instances of which they hold,
-- and the texts of their errors. Each has one error if it does not hold, except for
-- `dependentRequired`. (Validation 2020-12, 6)
use Rattle.std.specs.Prelude.{Bool, List, [], map, not, true, codes}
use Rattle.serde_json.specs.Data.{Data}
use Rattle.serde_json.specs.Find.{is_float}
use Rattle.serde_json.specs.Written.{has_float}
use Rattle.theory_definitions.specs.Instance.{Subject, Text}
use Rattle.schema_traits.specs.KeywordViews.{is_nil}
use Rattle.keyword_authoring.specs.Ways.{unless}
use Rattle.standard_basics.specs.Counts.{count_fits, count_name, count_text}
use Rattle.standard_basics.specs.Words.{required_text, type_text, types_text}
use Rattle.standard_assertions.specs.Constants.{constant_text, distinct_text, has_distinct_items, is_constant, is_listed, listed_text}
use Rattle.standard_assertions.specs.Dependents.{missing_dependents}
use Rattle.standard_assertions.specs.Limits.{keeps_limit, limit_name, limit_text}
use Rattle.standard_assertions.specs.Multiples.{is_multiple, multiple_text}
use Rattle.standard_assertions.specs.Sizes.{size_fits, size_name, size_text}
use Rattle.standard_assertions.specs.Types.{fits, fits_one}
use Rattle.standard_assertions.specs.declared.assertion.Assertion.{Assertion}
use Rattle.standard_assertions.specs.declared.assertion.Assertion.TheVariants as assertion

-- a keyword whose stored values are known
abbrev pub Shape : Type 0
Shape = Assertion Data

abbrev pub called : Shape → Text
called (assertion.Type integers t) = codes "type"
called (assertion.Types integers ts) = codes "type"
called (assertion.Const constant) = codes "const"
called (assertion.Enum values) = codes "enum"
called (assertion.Limit kind limit) = limit_name kind
called (assertion.MultipleOf divisor) = codes "multipleOf"
called (assertion.Size kind limit) = size_name kind
called (assertion.Count kind limit) = count_name kind
called assertion.UniqueItems = codes "uniqueItems"
called (assertion.DependentRequired dependents) = codes "dependentRequired"

abbrev pub holds : Shape → Subject → Bool
holds (assertion.Type integers t) s = fits integers t s
holds (assertion.Types integers ts) s = fits_one integers ts s
holds (assertion.Const constant) s = is_constant constant s
holds (assertion.Enum values) s = is_listed values s
holds (assertion.Limit kind limit) s = keeps_limit kind limit s
holds (assertion.MultipleOf divisor) s = is_multiple divisor s
holds (assertion.Size kind limit) s = size_fits kind limit s
holds (assertion.Count kind limit) s = count_fits kind limit s
holds assertion.UniqueItems s = has_distinct_items s
holds (assertion.DependentRequired dependents) s = is_nil (missing_dependents dependents s)

-- the text of its one error; `dependentRequired` has one for each missing name instead
abbrev pub error_text : Shape → Subject → Text
error_text (assertion.Type integers t) s = type_text t s
error_text (assertion.Types integers ts) s = types_text ts s
error_text (assertion.Const constant) s = constant_text constant
error_text (assertion.Enum values) s = listed_text values s
error_text (assertion.Limit kind limit) s = limit_text kind limit s
error_text (assertion.MultipleOf divisor) s = multiple_text divisor s
error_text (assertion.Size kind limit) s = size_text kind limit s
error_text (assertion.Count kind limit) s = count_text kind limit s
error_text assertion.UniqueItems s = distinct_text s
error_text (assertion.DependentRequired dependents) s = []

-- the texts of its errors, in order: none if it holds
abbrev pub error_texts : Shape → Subject → List Text
error_texts (assertion.DependentRequired dependents) s = map required_text (missing_dependents dependents s)
error_texts m s = unless (holds m s) (error_text m s)

-- whether none of its texts shows a fraction that the schema contains
abbrev pub shows_no_fraction : Shape → Bool
shows_no_fraction (assertion.Type integers t) = true
shows_no_fraction (assertion.Types integers ts) = true
shows_no_fraction (assertion.Const constant) = not (has_float constant)
shows_no_fraction (assertion.Enum values) = not (has_float values)
shows_no_fraction (assertion.Limit kind limit) = not (is_float limit)
shows_no_fraction (assertion.MultipleOf divisor) = not (is_float divisor)
shows_no_fraction (assertion.Size kind limit) = true
shows_no_fraction (assertion.Count kind limit) = true
shows_no_fraction assertion.UniqueItems = true
shows_no_fraction (assertion.DependentRequired dependents) = true
