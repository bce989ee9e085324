-- All keywords but `oneOf`, `not` and `if` declare themselves monotone. Each passes on the units
-- that its children return.
use Rattle.std.proofs.Common.{◌≡◌, Bool, None, Option, Some, refl, true}
use Rattle.theory_definitions.specs.Instance.{Subject, Text}
use Rattle.theory_meaning.specs.Greatest.{IsMonotone}
use Rattle.theory_meaning.specs.UnitsLead.{EachHandsUnitsOn, HandsUnitsOn}
use Rattle.keyword_authoring.specs.WayGrows.{Grows, way_grows}
use Rattle.keyword_authoring.specs.WayHandsOn.{ways_hand_units_on}
use Rattle.keyword_authoring.specs.WayWords.{nothing_absorbed, words_of}
use Rattle.schema_applicators.specs.Laws.{each_grows}
use Rattle.standard_basics.specs.BasicShape.{BasicShape, applies, has_count, has_items, has_pattern, has_prefix_items, has_properties, has_property_names, has_type, has_types, requires, says_monotone}
use Rattle.standard_basics.specs.Counts.{subject_string}
use Rattle.standard_basics.specs.Laws.{none_absorbed}
use Rattle.standard_basics.specs.Words.{pattern_way, way, words}

pattern_grows : (texts : Bool) (pattern : Text) (s : Subject) (o : Option Text) → Grows (pattern_way texts pattern s o)
pattern_grows texts pattern s None = way_grows (pattern_way texts pattern s None) refl
pattern_grows texts pattern s (Some text) = way_grows (pattern_way texts pattern s (Some text)) refl

each_way_grows : (texts : Bool) (m : BasicShape) (s : Subject) → says_monotone m ≡ true → Grows (way texts m s)
each_way_grows texts (has_type t) s h = way_grows (way texts (has_type t) s) refl
each_way_grows texts (has_types ts) s h = way_grows (way texts (has_types ts) s) refl
each_way_grows texts (requires ks) s h = way_grows (way texts (requires ks) s) refl
each_way_grows texts (has_properties ks) s h = way_grows (way texts (has_properties ks) s) refl
each_way_grows texts (has_count kind n) s h = way_grows (way texts (has_count kind n) s) refl
each_way_grows texts (has_pattern pattern) s h = pattern_grows texts pattern s (subject_string s)
each_way_grows texts (has_prefix_items n) s h = way_grows (way texts (has_prefix_items n) s) refl
each_way_grows texts (has_items n) s h = way_grows (way texts (has_items n) s) refl
each_way_grows texts has_property_names s h = way_grows (way texts has_property_names s) refl
each_way_grows texts (applies a) s h = each_grows texts a s h

pub basics_grow : (texts : Bool) (m : BasicShape) → says_monotone m ≡ true → IsMonotone (words texts) m
basics_grow texts m h = record { untold = refl; grows = λ s matches a b where_yes holds. each_way_grows texts m s h matches a b where_yes holds }

pub basics_hand_units_on : (texts : Bool) → EachHandsUnitsOn (words texts) none_absorbed
basics_hand_units_on texts m s matches u =
    let handed : HandsUnitsOn (words_of way texts) (nothing_absorbed way) m s matches u = ways_hand_units_on way texts m s matches u in
    record { own = handed.own; absorbed = handed.absorbed }
