-- The records that the laws name for `x-items` and `type`, and the proof that both keep the laws.
use Rattle.std.proofs.Common.{◌≡◌, ◌∙◌, ℕ, Bool, List, refl, sym, true}
use Rattle.theory_definitions.specs.Instance.{Subject, Text}
use Rattle.theory_definitions.specs.Keywords.{Answer, Keywords}
use Rattle.theory_definitions.specs.Remembering.{EachAsksVerdicts}
use Rattle.theory_definitions.specs.Turns.{FunctionLaws, Standing, TurnLaws}
use Rattle.theory_meaning.specs.Greatest.{IsMonotone}
use Rattle.theory_meaning.specs.UnitsLead.{EachHandsUnitsOn, HandsUnitsOn}
use Rattle.schema_traits.specs.UnitQuestions.{AsksNoUnits}
use Rattle.keyword_authoring.specs.OwnWays.{own_absorbed, own_can_be, own_ends, own_fits, own_function_laws, own_remaining, own_turn_laws, own_words, spoken_ways}
use Rattle.keyword_authoring.specs.Plans.{plan_ways, plans_present}
use Rattle.keyword_authoring.specs.Ways.{Way}
use Rattle.keyword_authoring.specs.WayGrows.{own_grow, plans_grow}
use Rattle.keyword_authoring.specs.WayHandsOn.{own_hand_units_on}
use Rattle.keyword_authoring.specs.WayUnits.{WantsNone, mode-kept, step_for_less}
use Rattle.keyword_authoring.specs.WayVerdicts.{WantsVerdict, step_for_verdict}
use Rattle.keyword_authoring.specs.declared.run.Progress.{Progress}
use Rattle.test_laws.specs.Items.{items_plans_grow, marks, name, planned, told, way_marks}
use Rattle.test_laws.specs.Marking as marking
use Rattle.test_laws.specs.declared.items.ItemsPlan.{ItemsPlan}

abbrev pub ways : ItemsPlan → Subject → Way
ways = plan_ways planned name told

abbrev pub ItemsRun : Type 0
ItemsRun = marking.Run marks (own_words ways)

abbrev pub items_words : Bool → Keywords ItemsPlan ItemsRun
items_words = marking.words marks (own_words ways)

abbrev pub items_absorbed : ItemsPlan → List Text
items_absorbed = own_absorbed ways

abbrev pub items_remaining : ItemsPlan → Subject → ItemsRun → ℕ
items_remaining = marking.remaining marks (own_words ways) items_absorbed (own_remaining ways) (own_can_be ways) (own_ends ways) (own_fits ways)

abbrev pub items_can_be : Bool → ItemsPlan → Subject → ItemsRun → Type 0
items_can_be = marking.can_be marks (own_words ways) items_absorbed (own_remaining ways) (own_can_be ways) (own_ends ways) (own_fits ways)

abbrev pub items_ends : Bool → ItemsPlan → Standing ItemsRun → Answer
items_ends = marking.ends marks (own_words ways) items_absorbed (own_remaining ways) (own_can_be ways) (own_ends ways) (own_fits ways)

abbrev pub items_fits : Bool → ItemsPlan → Standing ItemsRun → Type 0
items_fits = marking.fits marks (own_words ways) items_absorbed (own_remaining ways) (own_can_be ways) (own_ends ways) (own_fits ways)

pub items_turns : (texts : Bool) (m : ItemsPlan) → TurnLaws (items_words texts) m (items_absorbed m) (items_remaining m) (items_can_be texts m) (items_ends texts m) (items_fits texts m)
items_turns = marking.turns_keep marks (own_words ways) items_absorbed (own_remaining ways) (own_can_be ways) (own_ends ways) (own_fits ways) (own_turn_laws ways)
    (λ texts m s r reply. way_marks (spoken_ways ways texts m s) r.0.mode r.0.stage reply)

pub items_functions : (texts : Bool) (m : ItemsPlan) → FunctionLaws (items_words texts) m (items_absorbed m)
items_functions = marking.functions_keep marks (own_words ways) items_absorbed (own_remaining ways) (own_can_be ways) (own_ends ways) (own_fits ways)
    (own_function_laws ways (plans_present planned name told))

pub items_units : (texts : Bool) → AsksNoUnits (items_words texts)
items_units = marking.asks_no_units marks (own_words ways) (λ (r : Progress × Answer). WantsNone r.0.mode) (λ texts m s r reply h. h)
    (λ texts m s r reply h. step_for_less (spoken_ways ways texts m s) r.0.mode r.0.stage reply h) (λ texts m s mode none e. none (sym (mode-kept mode) ∙ e))

pub items_verdicts : (texts : Bool) → EachAsksVerdicts (items_words texts)
items_verdicts = marking.asks_verdicts marks (own_words ways) (λ (r : Progress × Answer). WantsVerdict r.0.mode) (λ texts m s r reply h. h)
    (λ texts m s r reply h. step_for_verdict (spoken_ways ways texts m s) r.0.mode r.0.stage reply h) (λ texts m s. refl)

-- each of them passes its child's answer on or reports its own, so it is monotone
pub items_grows : (texts : Bool) (m : ItemsPlan) → true ≡ true → IsMonotone (items_words texts) m
items_grows texts m h = record {
  untold = refl;
  grows = λ s matches a b where_yes holds. (own_grow ways (λ _. true) (plans_grow planned name told (λ _. true) items_plans_grow) texts m h).grows s matches a b where_yes holds;
}

pub items_hand_on : (texts : Bool) → EachHandsUnitsOn (items_words texts) items_absorbed
items_hand_on texts m s matches u =
    let handed : HandsUnitsOn (own_words ways texts) items_absorbed m s matches u = own_hand_units_on ways texts m s matches u in
    record { own = handed.own; absorbed = handed.absorbed }
