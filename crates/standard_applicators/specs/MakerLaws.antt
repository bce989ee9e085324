-- The makers request only schemas strictly below the object, and end as a maker must.
use Rattle.std.specs.Prelude.{Bool, None, Option, Some, [], bytes_eq, codes, false, if◌then◌else◌, refl, true, ℕ}
use Rattle.serde_json.specs.Data.{Data, Members, array, boolean, null, number, object, string}
use Rattle.serde_json.specs.Find.{get_member}
use Rattle.theory_definitions.specs.Drafts.{Draft, Vocabularies}
use Rattle.theory_definitions.specs.Instance.{Text}
use Rattle.theory_definitions.specs.Making.{Script, a_keyword}
use Rattle.schema_traits.specs.MakerViews.{MakesRightly}
use Rattle.keyword_makers.specs.ByValue.{values_lie_below}
use Rattle.keyword_makers.specs.Making.{only_child}
use Rattle.keyword_makers.specs.MakingLaws.{asked_rightly, either_rightly, list_rightly, only_rightly}
use Rattle.keyword_makers.specs.Members.{names_of, values_below}
use Rattle.standard_applicators.specs.Courses.{none_absorbed}
use Rattle.standard_applicators.specs.DependencyValues.{are_lists_of_texts, schema_names, wants_of}
use Rattle.standard_applicators.specs.Limits.{contains_in, refused_limit}
use Rattle.standard_applicators.specs.Makers.{after_listed, contains_script, dependencies_in, dependencies_script, dependent_schemas_script, is_false, is_older_list, items_before, items_script, listed_beside, member_script, standard_script, unless_refused, value_script}
use Rattle.standard_applicators.specs.StandardCourses.{course}
use Rattle.standard_applicators.specs.declared.applicator.StandardApplicator.{StandardApplicator}
use Rattle.standard_applicators.specs.declared.applicator.StandardApplicator.TheVariants.{Contains, Dependencies, DependentSchemas, LaterItems, ListedItems}

-- No keyword stores a value of the schema.
abbrev pub is_whole : StandardApplicator → Bool
is_whole k = true

abbrev pub Rightly : Members → Script StandardApplicator → Type 0
Rightly = MakesRightly (none_absorbed course) is_whole

either : (owner : Members) (b : Bool) (x y : Script StandardApplicator) → Rightly owner x → Rightly owner y → Rightly owner (if b then x else y)
either = either_rightly (none_absorbed course) is_whole

child_rightly : (owner : Members) (name : Text) (k : StandardApplicator) → Rightly owner (only_child name k)
child_rightly owner name k = only_rightly (none_absorbed course) is_whole owner name k refl (λ h. refl)

refused_rightly : (owner : Members) (name : Text) (o : Option Data) (s : Script StandardApplicator) → Rightly owner s → Rightly owner (unless_refused name o s)
refused_rightly owner name None s right = right
refused_rightly owner name (Some d) s right = λ h. refl

contains_rightly : (owner : Members) (draft : Draft) (ms : Members) (name : Text) → Rightly owner (contains_script draft ms name)
contains_rightly owner draft ms name =
    refused_rightly owner (codes "minContains") (refused_limit draft (codes "minContains") ms) _
    (refused_rightly owner (codes "maxContains") (refused_limit draft (codes "maxContains") ms) _
    (child_rightly owner name (Contains (record { keyword = contains_in draft ms }))))

dependents_rightly : (owner : Members) (name : Text) (d : Data) → Rightly owner (dependent_schemas_script name d)
dependents_rightly owner name (object ms) = asked_rightly (none_absorbed course) is_whole owner (a_keyword (DependentSchemas (names_of ms)) []) (refl, (λ h. refl), tt)
    (values_below name (names_of ms)) (values_lie_below name (names_of ms))
dependents_rightly owner name null = λ h. refl
dependents_rightly owner name (boolean b) = λ h. refl
dependents_rightly owner name (number n) = λ h. refl
dependents_rightly owner name (string t) = λ h. refl
dependents_rightly owner name (array ds) = λ h. refl

wants_rightly : (owner ms : Members) (name : Text) (d : Data) → Rightly owner (dependencies_in ms name d)
wants_rightly owner ms name d = either owner (are_lists_of_texts ms) _ _
    (asked_rightly (none_absorbed course) is_whole owner (a_keyword (Dependencies (wants_of ms) (schema_names ms)) []) (refl, (λ h. refl), tt)
    (values_below name (schema_names ms)) (values_lie_below name (schema_names ms)))
    (λ h. refl)

dependencies_rightly : (owner : Members) (name : Text) (d : Data) → Rightly owner (dependencies_script name d)
dependencies_rightly owner name (object ms) = wants_rightly owner ms name (object ms)
dependencies_rightly owner name null = λ h. refl
dependencies_rightly owner name (boolean b) = λ h. refl
dependencies_rightly owner name (number n) = λ h. refl
dependencies_rightly owner name (string t) = λ h. refl
dependencies_rightly owner name (array ds) = λ h. refl

items_rightly : (owner : Members) (draft : Draft) (ms : Members) (name : Text) (d : Data) → Rightly owner (items_script draft ms name d)
items_rightly owner draft ms name d = either owner (is_older_list draft d) _ _
    (list_rightly (none_absorbed course) is_whole owner ListedItems name d (λ n. (refl, refl)))
    (child_rightly owner name (LaterItems (items_before draft ms)))

after_rightly : (owner : Members) (o : Option ℕ) (name : Text) (d : Data) → Rightly owner (after_listed o name d)
after_rightly owner None name d = tt
after_rightly owner (Some n) name d = either owner (is_false d) _ _ (refl, (λ h. refl), tt) (child_rightly owner name (LaterItems n))

value_rightly : (owner : Members) (draft : Draft) (name : Text) (d : Data) → Rightly owner (value_script draft owner name d)
value_rightly owner draft name d =
    either owner (bytes_eq name (codes "contains")) _ _ (contains_rightly owner draft owner name)
    (either owner (bytes_eq name (codes "dependentSchemas")) _ _ (dependents_rightly owner name d)
    (either owner (bytes_eq name (codes "dependencies")) _ _ (dependencies_rightly owner name d)
    (either owner (bytes_eq name (codes "items")) _ _ (items_rightly owner draft owner name d)
    (either owner (bytes_eq name (codes "additionalItems")) _ _ (after_rightly owner (listed_beside draft owner) name d) tt))))

member_rightly : (owner : Members) (draft : Draft) (name : Text) (o : Option Data) → Rightly owner (member_script draft owner name o)
member_rightly owner draft name None = tt
member_rightly owner draft name (Some d) = value_rightly owner draft name d

pub makes_rightly : (own : Bool) (name : Text) (owner : Members) (draft : Draft) (vocabularies : Vocabularies) (formats : Bool)
    → Rightly owner (standard_script own name owner draft vocabularies formats)
makes_rightly true name owner draft vocabularies formats = tt
makes_rightly false name owner draft vocabularies formats = member_rightly owner draft name (get_member name owner)
