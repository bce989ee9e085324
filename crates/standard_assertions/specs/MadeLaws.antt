-- A keyword that is made from a value without fractions shows none, and the makers end as they
-- should.
use Rattle.std.proofs.Common.{ap}
use Rattle.std.specs.Prelude.{Bool, List, None, Option, Some, [], bytes_eq, codes, false, if◌then◌else◌, is_some, not, option_map, refl, true, ◌≡◌}
use Rattle.serde_json.specs.Data.{Data, Members, Num, array, boolean, null, number, object, string, unsigned}
use Rattle.serde_json.specs.Find.{as_array, as_bool, as_object, get_member}
use Rattle.serde_json.specs.Written.{has_float}
use Rattle.theory_definitions.specs.Drafts.{Draft, Vocabularies}
use Rattle.theory_definitions.specs.Instance.{Text}
use Rattle.json_values.specs.Numbers.{less}
use Rattle.schema_traits.specs.MakerViews.{MakesRightly}
use Rattle.keyword_makers.specs.ByObject.{IsRightHere, IsWholeWhere, MadeHere, makes_by_object, right_by_value}
use Rattle.standard_basics.specs.declared.counts.CountKind.{CountKind}
use Rattle.standard_basics.specs.declared.counts.CountKind.TheVariants as count
use Rattle.standard_assertions.specs.Assertions.{Shape, shows_no_fraction}
use Rattle.standard_assertions.specs.Made.{assertion_script, excludes, here_if, limit_beside, limit_here, made, made_of_counts, made_of_lists, made_of_numbers, unique_made}
use Rattle.standard_basics.specs.TypeNames.{type_named, types_of}
use Rattle.standard_assertions.specs.Values.{count_made, dependents_made, enum_made, has_text_lists, integers_of, is_draft_4, limit_made, multiple_made, size_limit, size_made, type_made}
use Rattle.standard_assertions.specs.declared.assertion.Assertion.TheVariants as assertion
use Rattle.standard_assertions.specs.declared.limits.LimitKind.{LimitKind}
use Rattle.standard_assertions.specs.declared.limits.LimitKind.TheVariants as limit
use Rattle.standard_assertions.specs.declared.sizes.SizeKind.{SizeKind}
use Rattle.standard_assertions.specs.declared.sizes.SizeKind.TheVariants as size
use Rattle.standard_assertions.specs.declared.types.Integers.{Integers}

-- If the value contains no fraction, then the keyword, if there is one, shows none.
abbrev IsWholeBy : Data → Option Shape → Type 0
IsWholeBy d None = Unit {0}
IsWholeBy d (Some m) = has_float d ≡ false → shows_no_fraction m ≡ true

by_map : {A : Type 0} (f : A → Shape) → ((a : A) → shows_no_fraction (f a) ≡ true) → (d : Data) (o : Option A) → IsWholeBy d (option_map f o)
by_map f shows d None = tt
by_map f shows d (Some a) = λ h. shows a

by_test : (d : Data) (b : Bool) (m : Shape) → IsWholeBy d (Some m) → IsWholeBy d (if b then Some m else None)
by_test d true m h = h
by_test d false m h = tt

type_whole : (integers : Integers) (d : Data) → IsWholeBy d (type_made integers d)
type_whole integers null = tt
type_whole integers (boolean b) = tt
type_whole integers (number n) = tt
type_whole integers (string t) = by_map (assertion.Type integers) (λ t. refl) (string t) (type_named t)
type_whole integers (array ds) = by_map (assertion.Types integers) (λ ts. refl) (array ds) (types_of ds)
type_whole integers (object ms) = tt

enum_whole : (d : Data) → IsWholeBy d (enum_made d)
enum_whole d = by_test d (is_some (as_array d)) (assertion.Enum d) (λ h. ap not h)

limit_whole : (kind : LimitKind) (d : Data) → IsWholeBy d (limit_made kind d)
limit_whole kind null = tt
limit_whole kind (boolean b) = tt
limit_whole kind (number n) = λ h. ap not h
limit_whole kind (string t) = tt
limit_whole kind (array ds) = tt
limit_whole kind (object ms) = tt

divisor_whole : (n : Num) (b : Bool) → IsWholeBy (number n) (option_map assertion.MultipleOf (if b then Some n else None))
divisor_whole n true = λ h. ap not h
divisor_whole n false = tt

multiple_whole : (d : Data) → IsWholeBy d (multiple_made d)
multiple_whole null = tt
multiple_whole (boolean b) = tt
multiple_whole (number n) = divisor_whole n (less (unsigned 0) n)
multiple_whole (string t) = tt
multiple_whole (array ds) = tt
multiple_whole (object ms) = tt

size_whole : (kind : SizeKind) (draft : Draft) (d : Data) → IsWholeBy d (size_made kind draft d)
size_whole kind draft d = by_map (assertion.Size kind) (λ n. refl) d (size_limit draft d)

count_whole : (kind : CountKind) (draft : Draft) (d : Data) → IsWholeBy d (count_made kind draft d)
count_whole kind draft d = by_map (assertion.Count kind) (λ n. refl) d (size_limit draft d)

dependents_whole : (d : Data) → IsWholeBy d (dependents_made d)
dependents_whole d = by_test d (has_text_lists (as_object d)) (assertion.DependentRequired d) (λ h. refl)

module _ (absorbed : Shape → List Text) (none : (m : Shape) → [] ≡ absorbed m) where
  abbrev IsWholeHere : Data → MadeHere Shape → Type 0
  IsWholeHere d m = IsWholeWhere absorbed shows_no_fraction none (has_float d ≡ false) m

  if_whole : (d : Data) (m : Option Shape) → IsWholeBy d m → IsWholeHere d (here_if m)
  if_whole d None h = tt
  if_whole d (Some m) h = h

  either_whole : (d : Data) (b : Bool) (x y : MadeHere Shape) → IsWholeHere d x → IsWholeHere d y → IsWholeHere d (if b then x else y)
  either_whole d true x y p q = p
  either_whole d false x y p q = q

  beside_whole : (including excluding : LimitKind) (beside : Text) (exclusive : Option Bool) (d : Data) → IsWholeHere d (limit_beside including excluding beside exclusive d)
  beside_whole including excluding beside None d = tt
  beside_whole including excluding beside (Some false) d = if_whole d (limit_made including d) (limit_whole including d)
  beside_whole including excluding beside (Some true) d = if_whole d (limit_made excluding d) (limit_whole excluding d)

  limit_here_whole : (including excluding : LimitKind) (beside : Text) (draft : Draft) (whole : Members) (d : Data) → IsWholeHere d (limit_here including excluding beside draft whole d)
  limit_here_whole including excluding beside draft whole d =
      either_whole d (is_draft_4 draft) _ _ (beside_whole including excluding beside (excludes (get_member beside whole)) d)
      (if_whole d (limit_made including d) (limit_whole including d))

  unique_whole : (d : Data) (o : Option Bool) → IsWholeHere d (unique_made o)
  unique_whole d None = tt
  unique_whole d (Some true) = λ h. refl
  unique_whole d (Some false) = tt

  counts_whole : (draft : Draft) (name : Text) (d : Data) → IsWholeHere d (made_of_counts draft name d)
  counts_whole draft name d =
      either_whole d (bytes_eq name (codes "minLength")) _ _ (if_whole d (count_made count.MinLength draft d) (count_whole count.MinLength draft d))
      (either_whole d (bytes_eq name (codes "maxLength")) _ _ (if_whole d (count_made count.MaxLength draft d) (count_whole count.MaxLength draft d))
      (either_whole d (bytes_eq name (codes "minProperties")) _ _ (if_whole d (count_made count.MinProperties draft d) (count_whole count.MinProperties draft d)) tt))

  lists_whole : (draft : Draft) (name : Text) (d : Data) → IsWholeHere d (made_of_lists draft name d)
  lists_whole draft name d =
      either_whole d (bytes_eq name (codes "minItems")) _ _ (if_whole d (size_made size.MinItems draft d) (size_whole size.MinItems draft d))
      (either_whole d (bytes_eq name (codes "maxItems")) _ _ (if_whole d (size_made size.MaxItems draft d) (size_whole size.MaxItems draft d))
      (either_whole d (bytes_eq name (codes "uniqueItems")) _ _ (unique_whole d (as_bool d))
      (either_whole d (bytes_eq name (codes "maxProperties")) _ _ (if_whole d (size_made size.MaxProperties draft d) (size_whole size.MaxProperties draft d))
      (either_whole d (bytes_eq name (codes "dependentRequired")) _ _ (if_whole d (dependents_made d) (dependents_whole d)) (counts_whole draft name d)))))

  numbers_whole : (draft : Draft) (whole : Members) (name : Text) (d : Data) → IsWholeHere d (made_of_numbers draft whole name d)
  numbers_whole draft whole name d =
      either_whole d (bytes_eq name (codes "minimum")) _ _ (limit_here_whole limit.Minimum limit.MinimumExcluded (codes "exclusiveMinimum") draft whole d)
      (either_whole d (bytes_eq name (codes "maximum")) _ _ (limit_here_whole limit.Maximum limit.MaximumExcluded (codes "exclusiveMaximum") draft whole d)
      (either_whole d (bytes_eq name (codes "exclusiveMinimum")) _ _ (if_whole d (limit_made limit.ExclusiveMinimum d) (limit_whole limit.ExclusiveMinimum d))
      (either_whole d (bytes_eq name (codes "exclusiveMaximum")) _ _ (if_whole d (limit_made limit.ExclusiveMaximum d) (limit_whole limit.ExclusiveMaximum d))
      (either_whole d (bytes_eq name (codes "multipleOf")) _ _ (if_whole d (multiple_made d) (multiple_whole d)) (lists_whole draft name d)))))

  made_whole : (draft : Draft) (whole : Members) (name : Text) (d : Data) → IsWholeHere d (made draft whole name d)
  made_whole draft whole name d =
      either_whole d (bytes_eq name (codes "type")) _ _ (if_whole d (type_made (integers_of draft) d) (type_whole (integers_of draft) d))
      (either_whole d (bytes_eq name (codes "const")) _ _ (λ h. ap not h)
      (either_whole d (bytes_eq name (codes "enum")) _ _ (if_whole d (enum_made d) (enum_whole d)) (numbers_whole draft whole name d)))

  pub made_right : (draft : Draft) (whole : Members) (name : Text) (d : Data) → get_member name whole ≡ Some d
      → IsRightHere absorbed shows_no_fraction whole (made draft whole name d)
  made_right draft whole name d found = right_by_value absorbed shows_no_fraction none whole name d found (made draft whole name d) (made_whole draft whole name d)

  pub makes_rightly : (own : Bool) (name : Text) (whole : Members) (draft : Draft) (vocabularies : Vocabularies) (formats : Bool)
      → MakesRightly absorbed shows_no_fraction whole (assertion_script own name whole draft vocabularies formats)
  makes_rightly true name whole draft vocabularies formats = tt
  makes_rightly false name whole draft vocabularies formats = makes_by_object absorbed shows_no_fraction made made_right false name whole draft vocabularies formats
