-- The keywords keep the laws that every keyword must keep.
use Rattle.std.proofs.Common.{◌≡◌, Bool, refl, true}
use Rattle.std.proofs.lemmas.List.Elements.{All-append, All-cons}
use Rattle.std.specs.Prelude.{option_map}
use Rattle.theory_definitions.specs.Instance.{Subject}
use Rattle.theory_definitions.specs.Laws.{IsPresent, steps_below}
use Rattle.theory_definitions.specs.Turns.{FunctionLaws, TurnLaws}
use Rattle.theory_meaning.specs.Greatest.{IsMonotone}
use Rattle.schema_traits.specs.KeywordViews.{option_list}
use Rattle.keyword_authoring.specs.Items.{child_here}
use Rattle.keyword_authoring.specs.Places.{branch_present, children_present}
use Rattle.keyword_authoring.specs.WayGrows.{Grows, way_grows, ways_grow}
use Rattle.keyword_authoring.specs.WayLaws.{AllPresent, SameQuestions, function_laws, turn_laws}
use Rattle.keyword_authoring.specs.WayWords.{any_state, left_at_most, nothing_absorbed, run_ends, run_fits}
use Rattle.schema_applicators.specs.ApplicatorShape.{ApplicatorShape, has_all_of, has_any_of, has_if, has_not, has_one_of, says_monotone}
use Rattle.schema_applicators.specs.Words.{way, words}

pub same_questions : SameQuestions way
same_questions texts (has_all_of n) s = (refl, refl)
same_questions texts (has_any_of n) s = (refl, refl)
same_questions texts (has_one_of n) s = (refl, refl)
same_questions texts (has_not schema fraction) s = (refl, refl)
same_questions texts (has_if accepted refused) s = (refl, refl)

pub present : AllPresent way
present texts (has_all_of n) s = children_present s n
present texts (has_any_of n) s = children_present s n
present texts (has_one_of n) s = children_present s n
present texts (has_not schema fraction) s = children_present s 1
present texts (has_if accepted refused) s = All-cons (λ q. IsPresent s (steps_below q.below)) (child_here 0) _ refl
    (All-append (λ q. IsPresent s (steps_below q.below)) (option_list (option_map child_here accepted)) (option_list (option_map child_here refused)) (branch_present s accepted) (branch_present s refused))

pub turns_keep : (texts : Bool) (m : ApplicatorShape)
    → TurnLaws (words texts) m (nothing_absorbed way m) (left_at_most way m) (any_state way m) (run_ends way texts m) (run_fits way texts m)
turns_keep = turn_laws way same_questions

pub functions_keep : (texts : Bool) (m : ApplicatorShape) → FunctionLaws (words texts) m (nothing_absorbed way m)
functions_keep = function_laws way present

-- ---- A keyword that declares itself monotone is monotone.

pub each_grows : (texts : Bool) (m : ApplicatorShape) (s : Subject) → says_monotone m ≡ true → Grows (way texts m s)
each_grows texts (has_all_of n) s h = way_grows (way texts (has_all_of n) s) refl
each_grows texts (has_any_of n) s h = way_grows (way texts (has_any_of n) s) refl
each_grows texts (has_one_of n) s h = absurd (cc h)
each_grows texts (has_not schema fraction) s h = absurd (cc h)
each_grows texts (has_if accepted refused) s h = absurd (cc h)

pub applicators_grow : (texts : Bool) (m : ApplicatorShape) → says_monotone m ≡ true → IsMonotone (words texts) m
applicators_grow texts m h = ways_grow way texts m (λ s. each_grows texts m s h)
