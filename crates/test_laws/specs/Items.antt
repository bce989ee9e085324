-- `x-items`, which holds if each item accepts, and passes on their answers in the run's mode; and
-- `type` with the value "array", which holds if the instance is an array.
use Rattle.std.proofs.Common.{ℕ, ◌+◌, zero, suc, Bool, true, false, [], None, Option, Some, refl}
use Rattle.std.specs.Prelude.{codes, ◌++◌}
use Rattle.theory_definitions.specs.Instance.{Subject, Text}
use Rattle.theory_definitions.specs.Keywords.{Question, Reply}
use Rattle.theory_definitions.specs.Meaning.{subject_text}
use Rattle.keyword_authoring.specs.Items.{is_list}
use Rattle.keyword_authoring.specs.WayGrows.{PlansGrow}
use Rattle.keyword_authoring.specs.declared.planned.Asks.TheVariants as asks
use Rattle.keyword_authoring.specs.declared.planned.Plan.{Plan}
use Rattle.keyword_authoring.specs.declared.planned.Plan.TheVariants.{PassesOn, Holds}
use Rattle.keyword_authoring.specs.declared.run.Stage.{Stage}
use Rattle.keyword_authoring.specs.declared.run.Stage.TheVariants.{Asked, Begun, Counted, Ended}
use Rattle.schema_traits.specs.declared.keyword.Mode.{Mode}
use Rattle.keyword_authoring.specs.Tallies.{asked_in, says_yes, tallied, wants_units}
use Rattle.keyword_authoring.specs.Somes.{question_of, some_from}
use Rattle.keyword_authoring.specs.Ways.{Way, asked, asks_match, branches, chosen, goes_on, judges, left_to_judge, next_if, next_some, nth, passes_on, passes_some, step_at, tells}
use Rattle.test_laws.specs.Marking.{MarksNothing}
use Rattle.test_laws.specs.declared.items.ItemsPlan.{ItemsPlan}
use Rattle.test_laws.specs.declared.items.ItemsPlan.TheVariants.{ArrayType, EachItem}

abbrev pub planned : ItemsPlan → Subject → Plan
planned ArrayType s = Holds (is_list s)
planned EachItem s = PassesOn asks.Items

abbrev pub name : ItemsPlan → Text
name ArrayType = codes "type"
name EachItem = codes "x-items"

abbrev pub told : ItemsPlan → Subject → ℕ → Text
told ArrayType s accepted = subject_text s ++ codes " is not of type \"array\""
told EachItem s accepted = []

-- neither plan has a maximum
pub items_plans_grow : PlansGrow planned (λ k. true)
items_plans_grow ArrayType s h = refl
items_plans_grow EachItem s h = refl

-- only `x-items` marks
abbrev pub marks : ItemsPlan → Bool
marks ArrayType = false
marks EachItem = true

-- ---- no keyword of these kinds marks

asked_marks : (mode : Mode) (o : Option Question) → MarksNothing (asked mode o)
asked_marks mode None = tt
asked_marks mode (Some q) = tt

pub way_marks : (w : Way) (mode : Mode) (stage : Stage) (r : Reply) → MarksNothing (step_at w mode stage r)
way_marks (tells name ts) mode stage r = tt
way_marks (passes_on qs) mode Begun r = asked_marks mode (nth 0 qs)
way_marks (passes_on qs) mode (Asked i) r = asked_marks mode (next_if (goes_on r) (nth (i + 1) qs))
way_marks (passes_on qs) mode (Counted i n) r = tt
way_marks (passes_on qs) mode Ended r = tt
way_marks (passes_some os) mode Begun r = asked_marks mode (question_of (some_from 0 os))
way_marks (passes_some os) mode (Asked i) r = asked_marks mode (question_of (next_some (goes_on r) (some_from (i + 1) os)))
way_marks (passes_some os) mode (Counted i n) r = tt
way_marks (passes_some os) mode Ended r = tt
way_marks (judges t qs) mode Begun r = asked_marks (asked_in (wants_units t mode)) (nth 0 qs)
way_marks (judges t qs) mode (Asked i) r = tt
way_marks (judges t qs) mode (Counted i n) r = asked_marks (asked_in (wants_units t mode)) (left_to_judge t mode (tallied t.enough r n) (nth (i + 1) qs))
way_marks (judges t qs) mode Ended r = tt
way_marks (branches q one other) mode Begun r = tt
way_marks (branches q one other) mode (Asked zero) r = asked_marks mode (chosen (says_yes r) one other)
way_marks (branches q one other) mode (Asked (suc i)) r = tt
way_marks (branches q one other) mode (Counted i n) r = tt
way_marks (branches q one other) mode Ended r = tt
way_marks (asks_match name p text) mode Begun r = tt
way_marks (asks_match name p text) mode (Asked i) r = tt
way_marks (asks_match name p text) mode (Counted i n) r = tt
way_marks (asks_match name p text) mode Ended r = tt
