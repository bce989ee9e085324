-- The makers request only what lies strictly below the object, and end as they should.
use Rattle.std.proofs.Common.{ap}
use Rattle.std.specs.Prelude.{Bool, List, None, Option, Some, [], bytes_eq, codes, false, if◌then◌else◌, not, option_map, refl, true, ℕ, ◌≡◌}
use Rattle.serde_json.specs.Data.{Data, Members, array, boolean, null, number, object, string}
use Rattle.serde_json.specs.Find.{get_member}
use Rattle.theory_definitions.specs.Instance.{Text}
use Rattle.theory_definitions.specs.Drafts.{Draft, Vocabularies}
use Rattle.theory_definitions.specs.Making.{Script, a_keyword}
use Rattle.schema_traits.specs.MakerViews.{MakesRightly}
use Rattle.schema_applicators.specs.ApplicatorShape.{has_all_of, has_any_of, has_if, has_one_of}
use Rattle.keyword_makers.specs.Branches.{has_branch}
use Rattle.keyword_makers.specs.BranchLaws.{if_rightly}
use Rattle.keyword_makers.specs.Making.{makes_if}
use Rattle.keyword_makers.specs.MakingLaws.{IsPlainIf, asked_rightly, either_rightly, list_rightly, made_rightly, member_whole}
use Rattle.standard_basics.specs.BasicShape.{BasicShape, applies, has_count, has_prefix_items, has_properties, has_type, has_types, is_whole, requires}
use Rattle.standard_basics.specs.declared.counts.CountKind.{CountKind}
use Rattle.standard_basics.specs.TypeNames.{type_named, types_of}
use Rattle.standard_basics.specs.declared.type_names.TypeName.{TypeName}
use Rattle.standard_basics.specs.declared.counts.CountKind.TheVariants.{MaxLength, MinLength, MinProperties}
use Rattle.standard_basics.specs.Laws.{none_absorbed}
use Rattle.keyword_makers.specs.ByValue.{values_lie_below}
use Rattle.keyword_makers.specs.Members.{names_of, values_below}
use Rattle.standard_basics.specs.Makers.{basic_script, count_shape, is_older_list, items_script, member_script, pattern_shape, properties_script, required_shape, schema_script, texts_of, type_shape, value_script}

abbrev pub Rightly : Members → Script BasicShape → Type 0
Rightly = MakesRightly none_absorbed is_whole

-- a shape that holds no value of the schema
abbrev pub IsWholeIf : Option BasicShape → Type 0
IsWholeIf = IsPlainIf none_absorbed is_whole

type_whole : (o : Option TypeName) → IsWholeIf (option_map has_type o)
type_whole None = tt
type_whole (Some t) = (refl, refl)

types_whole : (o : Option (List TypeName)) → IsWholeIf (option_map has_types o)
types_whole None = tt
types_whole (Some ts) = (refl, refl)

type_shape_whole : (d : Data) → IsWholeIf (type_shape d)
type_shape_whole null = tt
type_shape_whole (boolean b) = tt
type_shape_whole (number n) = tt
type_shape_whole (string t) = type_whole (type_named t)
type_shape_whole (array ds) = types_whole (types_of ds)
type_shape_whole (object ms) = tt

texts_whole : (o : Option (List Text)) → IsWholeIf (option_map requires o)
texts_whole None = tt
texts_whole (Some ts) = (refl, refl)

required_shape_whole : (d : Data) → IsWholeIf (required_shape d)
required_shape_whole null = tt
required_shape_whole (boolean b) = tt
required_shape_whole (number n) = tt
required_shape_whole (string t) = tt
required_shape_whole (array ds) = texts_whole (texts_of ds)
required_shape_whole (object ms) = tt

pattern_whole : (d : Data) → IsWholeIf (pattern_shape d)
pattern_whole null = tt
pattern_whole (boolean b) = tt
pattern_whole (number n) = tt
pattern_whole (string t) = (refl, refl)
pattern_whole (array ds) = tt
pattern_whole (object ms) = tt

count_whole : (kind : CountKind) (o : Option ℕ) → IsWholeIf (option_map (has_count kind) o)
count_whole kind None = tt
count_whole kind (Some n) = (refl, refl)

properties_rightly : (owner : Members) (name : Text) (d : Data) → Rightly owner (properties_script name d)
properties_rightly owner name (object ms) = asked_rightly none_absorbed is_whole owner (a_keyword (has_properties (names_of ms)) []) (refl, (λ h. refl), tt) (values_below name (names_of ms)) (values_lie_below name (names_of ms))
properties_rightly owner name null = λ h. refl
properties_rightly owner name (boolean b) = λ h. refl
properties_rightly owner name (number n) = λ h. refl
properties_rightly owner name (string t) = λ h. refl
properties_rightly owner name (array ds) = λ h. refl

one_of : (owner : Members) (b : Bool) (x y : Script BasicShape) → Rightly owner x → Rightly owner y → Rightly owner (if b then x else y)
one_of = either_rightly none_absorbed is_whole

whole_rightly : (owner : Members) (name : Text) (d : Data) (m : Option BasicShape) → IsWholeIf m → Rightly owner (makes_if name d m)
whole_rightly = made_rightly none_absorbed is_whole

items_made_rightly : (owner : Members) (draft : Draft) (ms : Members) (name : Text) (d : Data) → Rightly owner (items_script draft ms name d)
items_made_rightly owner draft ms name d = one_of owner (is_older_list draft d) _ _ tt (tt, (refl, (λ h. refl), tt))

-- `owner` is the object whose member is made
schema_rightly : (owner : Members) (draft : Draft) (name : Text) (d : Data) → get_member name owner ≡ Some d → Rightly owner (schema_script draft owner name d)
schema_rightly owner draft name d here =
    one_of owner (bytes_eq name (codes "allOf")) _ _ (list_rightly none_absorbed is_whole owner (λ n. applies (has_all_of n)) name d (λ n. (refl, refl)))
    (one_of owner (bytes_eq name (codes "anyOf")) _ _ (list_rightly none_absorbed is_whole owner (λ n. applies (has_any_of n)) name d (λ n. (refl, refl)))
    (one_of owner (bytes_eq name (codes "oneOf")) _ _ (list_rightly none_absorbed is_whole owner (λ n. applies (has_one_of n)) name d (λ n. (refl, refl)))
    (one_of owner (bytes_eq name (codes "prefixItems")) _ _ (list_rightly none_absorbed is_whole owner has_prefix_items name d (λ n. (refl, refl)))
    (one_of owner (bytes_eq name (codes "items")) _ _ (items_made_rightly owner draft owner name d)
    (one_of owner (bytes_eq name (codes "not")) _ _ (tt, (refl, (λ h. ap not (member_whole name owner d here h)), tt))
    (one_of owner (bytes_eq name (codes "propertyNames")) _ _ (tt, (refl, (λ h. refl), tt))
    (one_of owner (bytes_eq name (codes "if")) _ _ (if_rightly none_absorbed is_whole owner (λ accepted refused. applies (has_if accepted refused)) name (λ accepted refused. (refl, refl)) (has_branch (codes "then") owner) (has_branch (codes "else") owner)) tt)))))))

value_rightly : (owner : Members) (draft : Draft) (name : Text) (d : Data) → get_member name owner ≡ Some d → Rightly owner (value_script draft owner name d)
value_rightly owner draft name d here =
    one_of owner (bytes_eq name (codes "type")) _ _ (whole_rightly owner name d (type_shape d) (type_shape_whole d))
    (one_of owner (bytes_eq name (codes "required")) _ _ (whole_rightly owner name d (required_shape d) (required_shape_whole d))
    (one_of owner (bytes_eq name (codes "properties")) _ _ (properties_rightly owner name d)
    (one_of owner (bytes_eq name (codes "minLength")) _ _ (whole_rightly owner name d (count_shape MinLength d) (count_whole MinLength _))
    (one_of owner (bytes_eq name (codes "maxLength")) _ _ (whole_rightly owner name d (count_shape MaxLength d) (count_whole MaxLength _))
    (one_of owner (bytes_eq name (codes "minProperties")) _ _ (whole_rightly owner name d (count_shape MinProperties d) (count_whole MinProperties _))
    (one_of owner (bytes_eq name (codes "pattern")) _ _ (whole_rightly owner name d (pattern_shape d) (pattern_whole d))
    (schema_rightly owner draft name d here)))))))

member_rightly : (owner : Members) (draft : Draft) (name : Text) (o : Option Data) → get_member name owner ≡ o → Rightly owner (member_script draft owner name o)
member_rightly owner draft name None here = tt
member_rightly owner draft name (Some d) here = value_rightly owner draft name d here

pub makes_rightly : (own : Bool) (name : Text) (owner : Members) (draft : Draft) (vocabularies : Vocabularies) (formats : Bool) → Rightly owner (basic_script own name owner draft vocabularies formats)
makes_rightly true name owner draft vocabularies formats = tt
makes_rightly false name owner draft vocabularies formats = member_rightly owner draft name (get_member name owner) refl
