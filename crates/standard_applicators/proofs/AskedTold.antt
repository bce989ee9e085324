-- The result of the questions that a keyword asks at items says whether the keyword holds.
use Rattle.std.proofs.Common.{◌≡◌, ◌∙◌, ◌-◌, Bool, List, ap, length, min, ℕ}
use Rattle.std.proofs.lemmas.List.Folds.{list_all-map}
use Rattle.std.specs.List.{list_all}
use Rattle.serde_json.specs.Data.{array}
use Rattle.serde_json.specs.View.{items_view}
use Rattle.serde_json.specs.declared.value.Value.{Value}
use Rattle.theory_definitions.specs.Instance.{Subject, a_value}
use Rattle.theory_definitions.specs.Keywords.{Question}
use Rattle.theory_definitions.specs.Matching.{Matching}
use Rattle.schema_traits.specs.AskedAtOnce.{child_at, numbers_from}
use Rattle.keyword_authoring.proofs.AskedAlike.{each_at_its_own, first_at_each}
use Rattle.standard_applicators.specs.Courses.{course_words}
use Rattle.standard_applicators.specs.StandardCourses.{course}
use Rattle.standard_applicators.specs.declared.applicator.StandardApplicator.TheVariants.{LaterItems, ListedItems}

module _ (texts : Bool) (s : Subject) (matching : Matching) (accepts : Question → Bool) (items : List Value) (is : s ≡ a_value (array (items_view items))) where
  pub listed_asked : (n : ℕ) → (course_words course texts).holds (ListedItems n) s matching accepts ≡ list_all (λ k. accepts (child_at k k)) (numbers_from 0 (min n (length items)))
  listed_asked n = ap (list_all accepts) (each_at_its_own s items is n) ∙ list_all-map accepts (λ k. child_at k k) (numbers_from 0 (min n (length items)))

  pub later_asked : (n : ℕ) → (course_words course texts).holds (LaterItems n) s matching accepts ≡ list_all (λ k. accepts (child_at 0 k)) (numbers_from n (length items - n))
  later_asked n = ap (list_all accepts) (first_at_each s items is n) ∙ list_all-map accepts (child_at 0) (numbers_from n (length items - n))
