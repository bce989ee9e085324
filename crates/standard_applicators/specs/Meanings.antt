-- The keywords mean what their definitions say.
use Rattle.std.specs.Prelude.{Bool, List, codes, map, min, true, ℕ, ◌++◌, ◌-◌, ◌↔◌, ◌≡◌}
use Rattle.theory_definitions.specs.Instance.{Subject, Text, to_item}
use Rattle.theory_definitions.specs.Keywords.{Answers, Question, down, here}
use Rattle.theory_definitions.specs.Matching.{Matching}
use Rattle.schema_reports.specs.ReportViews.{spoken}
use Rattle.keyword_authoring.specs.Items.{each_from, is_list, item_count}
use Rattle.keyword_authoring.specs.Somes.{somes}
use Rattle.standard_applicators.specs.Containing as contains
use Rattle.standard_applicators.specs.Courses.{course_words}
use Rattle.standard_applicators.specs.DependentSchemas.{EachDependentAccepts}
use Rattle.standard_applicators.specs.Dependents.{dependents_from}
use Rattle.standard_applicators.specs.FittingItems.{SoManyFit, how_many_fit}
use Rattle.standard_applicators.specs.ListedItems.{AreNoMore, EachFitsItsOwn, EachLaterFits}
use Rattle.standard_applicators.specs.OwnErrors.{OneUnless, own_error, passed_on}
use Rattle.standard_applicators.specs.StandardCourses.{course}
use Rattle.standard_applicators.specs.MetWants.{EachWantIsMet}
use Rattle.standard_applicators.specs.Unexpected as unexpected
use Rattle.standard_applicators.specs.Wanting.{required_text, unmet}
use Rattle.standard_applicators.specs.declared.applicator.StandardApplicator.TheVariants.{Contains, Dependencies, DependentSchemas, LaterItems, ListedItems, NoLaterItems}
use Rattle.standard_applicators.specs.declared.contains.Contains.{Contains as Limits}
use Rattle.standard_applicators.specs.declared.unexpected.NoLaterItems.{NoLaterItems as Before}

-- the question that evaluates the keyword's schema with this number at the instance's own place
abbrev pub schema_here : ℕ → Question
schema_here i = record { child = i; below = here }

-- the question that evaluates the schema with the one number at the item with the other
abbrev pub schema_at : ℕ → ℕ → Question
schema_at i k = record { child = i; below = down (to_item k) }

-- the questions that evaluate the only schema at `count` items, from item `first` on
abbrev pub at_items : ℕ → ℕ → List Question
at_items first count = each_from (λ k. schema_at 0 k) first count

abbrev pub verdict_in : Answers → Question → Bool
verdict_in answers q = (answers q).verdict

module _ (texts : Bool) (s : Subject) (matches : Matching) where
  -- ---- `contains`

  abbrev pub ContainsHolds : Type 0
  ContainsHolds = (k : Limits) (accepts : Question → Bool)
      → ((course_words course texts).holds (Contains (record { keyword = k })) s matches accepts ≡ true)
      ↔ (is_list s ≡ true → SoManyFit k.least k.most (map accepts (at_items 0 (item_count s))))

  abbrev pub ContainsFaults : Type 0
  ContainsFaults = (k : Limits) (answers : Answers)
      → OneUnless (is_list s ≡ true → SoManyFit k.least k.most (map (verdict_in answers) (at_items 0 (item_count s))))
      (own_error (codes "contains") (spoken texts (contains.error_text k s (how_many_fit (map (verdict_in answers) (at_items 0 (item_count s)))))))
      ((course_words course texts).faults (Contains (record { keyword = k })) s matches answers)

  -- ---- `dependentSchemas`

  abbrev pub DependentSchemasHolds : Type 0
  DependentSchemasHolds = (names : List Text) (accepts : Question → Bool)
      → ((course_words course texts).holds (DependentSchemas names) s matches accepts ≡ true) ↔ EachDependentAccepts names s (λ i. accepts (schema_here i))

  abbrev pub DependentSchemasFaults : Type 0
  DependentSchemasFaults = (names : List Text) (answers : Answers)
      → (course_words course texts).faults (DependentSchemas names) s matches answers ≡ passed_on answers (somes (dependents_from 0 names s))

  -- ---- `dependencies`

  abbrev pub DependenciesHold : Type 0
  DependenciesHold = (wants : List (Text × Text)) (names : List Text) (accepts : Question → Bool)
      → ((course_words course texts).holds (Dependencies wants names) s matches accepts ≡ true)
      ↔ (EachWantIsMet wants s × EachDependentAccepts names s (λ i. accepts (schema_here i)))

  abbrev pub DependenciesFaults : Type 0
  DependenciesFaults = (wants : List (Text × Text)) (names : List Text) (answers : Answers)
      → (course_words course texts).faults (Dependencies wants names) s matches answers
      ≡ map (λ want. own_error (codes "dependencies") (spoken texts (required_text want))) (unmet wants s)
      ++ passed_on answers (somes (dependents_from 0 names s))

  -- ---- `items` with a list of schemas

  abbrev pub ListedItemsHold : Type 0
  ListedItemsHold = (n : ℕ) (accepts : Question → Bool)
      → ((course_words course texts).holds (ListedItems n) s matches accepts ≡ true) ↔ EachFitsItsOwn n (item_count s) (λ i. accepts (schema_at i i))

  abbrev pub ListedItemsFaults : Type 0
  ListedItemsFaults = (n : ℕ) (answers : Answers)
      → (course_words course texts).faults (ListedItems n) s matches answers ≡ passed_on answers (each_from (λ i. schema_at i i) 0 (min n (item_count s)))

  -- ---- `items` with one schema, and `additionalItems`

  abbrev pub LaterItemsHold : Type 0
  LaterItemsHold = (before : ℕ) (accepts : Question → Bool)
      → ((course_words course texts).holds (LaterItems before) s matches accepts ≡ true) ↔ EachLaterFits before (item_count s) (λ i. accepts (schema_at 0 i))

  abbrev pub LaterItemsFaults : Type 0
  LaterItemsFaults = (before : ℕ) (answers : Answers)
      → (course_words course texts).faults (LaterItems before) s matches answers ≡ passed_on answers (at_items before (item_count s - before))

  -- ---- `additionalItems` with the value `false`

  abbrev pub NoLaterItemsHolds : Type 0
  NoLaterItemsHolds = (k : Before) (accepts : Question → Bool)
      → ((course_words course texts).holds (NoLaterItems k) s matches accepts ≡ true) ↔ AreNoMore k.before (item_count s)

  abbrev pub NoLaterItemsFaults : Type 0
  NoLaterItemsFaults = (k : Before) (answers : Answers)
      → OneUnless (AreNoMore k.before (item_count s)) (own_error (codes "additionalItems") (spoken texts (unexpected.error_text k s)))
      ((course_words course texts).faults (NoLaterItems k) s matches answers)
