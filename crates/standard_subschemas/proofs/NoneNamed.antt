-- An object has no subschemas if none of its members is a keyword that holds subschemas.
use Rattle.std.proofs.Common.{◌≡◌, ◌∙◌, ◌&&◌, ◌++◌, ◌∷◌, [], List, Bool, true, false, Option, Some, None, cond, ap, refl, sym, bytes_eq}
use Rattle.std.specs.Prelude.{◌||◌, flat_map}
use Rattle.std.specs.List.{AllByRecursion, list_all}
use Rattle.std.proofs.lemmas.Bool.{true≢false}
use Rattle.std.proofs.lemmas.Slice.Eq.{bytes_eq-Decides}
use Rattle.serde_json.specs.Data.{Data, Members, member, no_members, object}
use Rattle.serde_json.specs.Find.{get_member}
use Rattle.theory_definitions.specs.Instance.{Place, Text, member_of}
use Rattle.schema_reports.proofs.Found.{member_of-get_member}
use Rattle.theory_definitions.specs.Drafts.{Draft, draft_2019_09, draft_2020_12, draft_4, draft_6, draft_7, draft_unknown}
use Rattle.standard_subschemas.specs.declared.rules.Rule.{Rule}
use Rattle.standard_subschemas.specs.declared.rules.Rule.TheVariants.{Narrow, Standard}
use Rattle.standard_subschemas.specs.SubschemaRules.{below_list, below_object, below_value, names_of_lists, names_of_objects, names_of_values}
use Rattle.standard_subschemas.specs.SubschemaRules.{subschemas}
use Rattle.standard_subschemas.specs.FoundSchemas.{any_names_schemas, names_schemas}

pub first_false : (a b : Bool) → (a || b) ≡ false → a ≡ false
first_false true b e = e
first_false false b e = refl

pub second_false : (a b : Bool) → (a || b) ≡ false → b ≡ false
second_false true b e = absurd (true≢false e)
second_false false b e = e

both_first : (a b : Bool) → (a && b) ≡ true → a ≡ true
both_first true b e = refl
both_first false b e = absurd (true≢false (sym e))

both_second : (a b : Bool) → (a && b) ≡ true → b ≡ true
both_second true b e = e
both_second false b e = absurd (true≢false (sym e))

-- the names of each draft are among those of all drafts
objects_named : (rule : Rule) (draft : Draft) → list_all (names_schemas rule) (names_of_objects rule draft) ≡ true
objects_named Narrow draft = refl
objects_named Standard draft_4 = refl
objects_named Standard draft_6 = refl
objects_named Standard draft_7 = refl
objects_named Standard draft_2019_09 = refl
objects_named Standard draft_2020_12 = refl
objects_named Standard draft_unknown = refl

lists_named : (rule : Rule) (draft : Draft) → list_all (names_schemas rule) (names_of_lists rule draft) ≡ true
lists_named Narrow draft = refl
lists_named Standard draft_4 = refl
lists_named Standard draft_6 = refl
lists_named Standard draft_7 = refl
lists_named Standard draft_2019_09 = refl
lists_named Standard draft_2020_12 = refl
lists_named Standard draft_unknown = refl

values_named : (rule : Rule) (draft : Draft) → list_all (names_schemas rule) (names_of_values rule draft) ≡ true
values_named Narrow draft = refl
values_named Standard draft_4 = refl
values_named Standard draft_6 = refl
values_named Standard draft_7 = refl
values_named Standard draft_2019_09 = refl
values_named Standard draft_2020_12 = refl
values_named Standard draft_unknown = refl

none_under : (f : Text → Option Data → List Place) → ((k : Text) → f k None ≡ []) → (ms : Members) (names : List Text)
    → AllByRecursion (λ k. get_member k ms ≡ None) names
    → flat_map (λ k. f k (get_member k ms)) names ≡ []
none_under f z ms [] h = refl
none_under f z ms (k ∷ names) h = ap (λ o. f k o ++ flat_map (λ n. f n (get_member n ms)) names) h.0
    ∙ (ap (λ x. x ++ flat_map (λ n. f n (get_member n ms)) names) (z k) ∙ none_under f z ms names h.1)

module _ (rule : Rule) where
  absent_if : (k l : Text) (d : Data) (o : Option Data) (b : Bool) → bytes_eq k l ≡ b → names_schemas rule k ≡ true → names_schemas rule l
      ≡ false → o ≡ None → cond b (Some d) o ≡ None
  absent_if k l d o true same is apart later =
      absurd (true≢false (sym is ∙ ap (names_schemas rule) ((bytes_eq-Decides k l).0 same) ∙ apart))
  absent_if k l d o false differs is apart later = later

  absent : (ms : Members) → any_names_schemas rule ms ≡ false → (k : Text) → names_schemas rule k ≡ true → member_of k ms ≡ None
  absent no_members e k is = refl
  absent (member l d ms) e k is = absent_if k l d (member_of k ms) (bytes_eq k l) refl is
      (first_false (names_schemas rule l) (any_names_schemas rule ms) e)
      (absent ms (second_false (names_schemas rule l) (any_names_schemas rule ms) e) k is)

  missing : (ms : Members) → any_names_schemas rule ms ≡ false → (k : Text) → names_schemas rule k ≡ true → get_member k ms ≡ None
  missing ms e k is = sym (member_of-get_member k ms) ∙ absent ms e k is

  all_missing : (ms : Members) → any_names_schemas rule ms ≡ false → (names : List Text) → list_all (names_schemas rule) names ≡ true
      → AllByRecursion (λ k. get_member k ms ≡ None) names
  all_missing ms e [] h = tt
  all_missing ms e (k ∷ names) h = (
    missing ms e k (both_first (names_schemas rule k) (list_all (names_schemas rule) names) h),
    all_missing ms e names (both_second (names_schemas rule k) (list_all (names_schemas rule) names) h),
  )

  pub none_named : (draft : Draft) (ms : Members) → any_names_schemas rule ms ≡ false → subschemas rule draft (object ms) ≡ []
  none_named draft ms e =
      let lists = flat_map (λ k. below_list k (get_member k ms)) (names_of_lists rule draft) in
      let values = flat_map (λ k. below_value k (get_member k ms)) (names_of_values rule draft) in
      ap (λ x. x ++ lists ++ values) (none_under below_object (λ k. refl) ms (names_of_objects rule draft)
      (all_missing ms e (names_of_objects rule draft) (objects_named rule draft)))
      ∙ (ap (λ x. x ++ values) (none_under below_list (λ k. refl) ms (names_of_lists rule draft)
      (all_missing ms e (names_of_lists rule draft) (lists_named rule draft)))
      ∙ none_under below_value (λ k. refl) ms (names_of_values rule draft)
      (all_missing ms e (names_of_values rule draft) (values_named rule draft)))
