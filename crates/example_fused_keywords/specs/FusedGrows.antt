-- Which keywords declare that they are monotone: the basic ones as they do by themselves, and each
-- one about arrays, since its checks ask nothing and it passes on the answers to its questions.
-- Each keyword passes on the units that answer its questions; the units that a keyword about arrays
-- reports for others have none inside.
use Rattle.std.proofs.Common.{◌≡◌, ◌&&◌, ◌∷◌, [], zero, suc, Bool, arith, false, refl, true}
use Rattle.std.specs.Prelude.{All, Contains}
use Rattle.std.proofs.lemmas.List.Elements.{All-cons, All-nil}
use Rattle.theory_definitions.specs.Instance.{Subject}
use Rattle.theory_definitions.specs.Keywords.{Named, Question}
use Rattle.theory_definitions.specs.Matching.{Matching}
use Rattle.theory_definitions.specs.Reports.{Unit_}
use Rattle.theory_meaning.specs.Greatest.{IsMonotone}
use Rattle.theory_meaning.specs.Untold.{NeverTold}
use Rattle.theory_meaning.specs.UnitsLead.{EachHandsUnitsOn, HandsUnitsOn, IsHandedOn}
use Rattle.keyword_authoring.specs.WayGrows.{way_grows}
use Rattle.keyword_authoring.specs.WayHandsOn.{ways_hand_units_on}
use Rattle.keyword_authoring.specs.Ways.{Way, passes_on}
use Rattle.standard_basics.specs.Grows.{basics_grow, basics_hand_units_on}
use Rattle.standard_basics.specs.Laws.{none_absorbed}
use Rattle.standard_basics.specs.Words as bench
use Rattle.example_fused_keywords.specs.Checks.{absorbed_unit}
use Rattle.example_fused_keywords.specs.FusedShape.{FusedShape, absorbed_by, of_array, of_bench, says_monotone}
use Rattle.example_fused_keywords.specs.FusedWords.{fused_words}
use Rattle.example_fused_keywords.specs.Openings.{absorbs, checks_hold, first_gives, questions_of}
use Rattle.example_fused_keywords.specs.declared.array.ArrayKeyword.{ArrayKeyword}
use Rattle.example_fused_keywords.specs.declared.array.ArrayKeyword.TheVariants.{ArrayShape, MinItems}
use Rattle.example_fused_keywords.specs.declared.checks.Check.TheVariants.{HasLeast, IsArray}

-- the verdict of the checks stays
checked : (c x y : Bool) → (x ≡ true → y ≡ true) → (c && x) ≡ true → (c && y) ≡ true
checked true x y rest h = rest h
checked false x y rest h = h

pub fused_grows : (texts : Bool) (m : FusedShape) → says_monotone m ≡ true → IsMonotone (fused_words texts) m
fused_grows texts (of_bench m) h = let inner = basics_grow texts m h in record { untold = inner.untold; grows = inner.grows }
fused_grows texts (of_array k) h = record {
  untold = refl;
  grows = λ s matches a b where_yes holds. checked (checks_hold k s) _ _ (way_grows (passes_on (questions_of k s)) refl matches a b where_yes) holds;
}

pub fused_never_told : (texts : Bool) → NeverTold (fused_words texts)
fused_never_told texts (of_bench m) = refl
fused_never_told texts (of_array k) = refl

-- ---- the units

-- the kind of the part that evaluates the items
abbrev items_way : Bool → ArrayKeyword → Subject → Way
items_way texts k s = passes_on (questions_of k s)

module _ (texts : Bool) (s : Subject) (u : Question → Unit_) where
  abbrev Stands : ArrayKeyword → Named → Type 0
  Stands k a = Contains (absorbs k) a.name × All (IsHandedOn u (questions_of k s)) a.children

  all_absorbed : (k : ArrayKeyword) → All (Stands k) (first_gives texts k s).absorbed
  all_absorbed (MinItems n) = All-nil (Stands (MinItems n))
  all_absorbed (ArrayShape before n) = All-cons (Stands (ArrayShape before n)) (absorbed_unit texts IsArray s) (absorbed_unit texts (HasLeast n) s ∷ [])
      ((zero, omega arith, refl), All-nil _)
      (All-cons (Stands (ArrayShape before n)) (absorbed_unit texts (HasLeast n) s) [] ((suc zero, omega arith, refl), All-nil _) (All-nil (Stands (ArrayShape before n))))

  all_own : (matches : Matching) (k : ArrayKeyword) → All (IsHandedOn u (questions_of k s)) ((fused_words texts).units (of_array k) s matches u).children
  all_own matches (MinItems n) = (ways_hand_units_on items_way texts (MinItems n) s matches u).own
  all_own matches (ArrayShape before n) = (ways_hand_units_on items_way texts (ArrayShape before n) s matches u).own

pub fused_hands_units_on : (texts : Bool) → EachHandsUnitsOn (fused_words texts) absorbed_by
fused_hands_units_on texts (of_bench m) s matches u =
    let handed : HandsUnitsOn (bench.words texts) none_absorbed m s matches u = basics_hand_units_on texts m s matches u in
    record { own = handed.own; absorbed = handed.absorbed }
fused_hands_units_on texts (of_array k) s matches u = record { own = all_own texts s u matches k; absorbed = all_absorbed texts s u k }
