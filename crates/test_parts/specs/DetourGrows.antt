-- A detour is monotone if the keyword that it wraps is, and it passes on the units that this
-- keyword passes on.
use Rattle.std.proofs.Common.{◌≡◌, Bool, true}
use Rattle.theory_meaning.specs.Greatest.{IsMonotone}
use Rattle.theory_meaning.specs.UnitsLead.{EachHandsUnitsOn, HandsUnitsOn}
use Rattle.standard_basics.specs.BasicShape.{says_monotone}
use Rattle.standard_basics.specs.Grows.{basics_grow, basics_hand_units_on}
use Rattle.standard_basics.specs.Laws.{none_absorbed}
use Rattle.standard_basics.specs.Words.{words}
use Rattle.test_parts.specs.Detours.{Detour, detour_words, nothing_absorbed}

pub detour_grows : (texts : Bool) (m : Detour) → says_monotone m.1 ≡ true → IsMonotone (detour_words texts) m
detour_grows texts m h = let inner : IsMonotone (words texts) m.1 = basics_grow texts m.1 h in record { untold = inner.untold; grows = λ s matches a b where_yes holds. inner.grows s matches a b where_yes holds }

pub detour_hands_on : (texts : Bool) → EachHandsUnitsOn (detour_words texts) nothing_absorbed
detour_hands_on texts m s matches u =
    let handed : HandsUnitsOn (words texts) none_absorbed m.1 s matches u = basics_hand_units_on texts m.1 s matches u in
    record { own = handed.own; absorbed = handed.absorbed }
