-- Keywords of any kind pass on the units that answer their questions, and absorb none.
use Rattle.std.proofs.Common.{◌≡◌, ◌++◌, ◌∷◌, [], List, Bool, true, false, Option, refl, map}
use Rattle.std.specs.Prelude.{All, Contains}
use Rattle.std.proofs.lemmas.List.Elements.{All-contains_itself, All-map, All-nil, All-same, All-weaker, Contains-append_left, Contains-append_right}
use Rattle.theory_definitions.specs.Instance.{Subject}
use Rattle.theory_definitions.specs.Matching.{Matching}
use Rattle.theory_definitions.specs.Keywords.{Named, Question}
use Rattle.theory_definitions.specs.Reports.{Unit_, report_of}
use Rattle.theory_meaning.specs.UnitsLead.{EachHandsUnitsOn, IsHandedOn}
use Rattle.schema_traits.specs.KeywordViews.{option_list}
use Rattle.keyword_authoring.specs.OwnWays.{own_absorbed, own_words, spoken_ways}
use Rattle.keyword_authoring.specs.Somes.{somes}
use Rattle.keyword_authoring.specs.Ways.{Way, asks_match, branch, branches, given, judges, passes_on, passes_some, questions, tells, way_units}
use Rattle.keyword_authoring.specs.WayWords.{nothing_absorbed, words_of}

module _ (u : Question → Unit_) where
  -- the units of some of the questions
  of_some : (qs ps : List Question) → ((q : Question) → Contains ps q → Contains qs q) → All (IsHandedOn u qs) (map u ps)
  of_some qs ps inside = All-map (IsHandedOn u qs) u ps (All-weaker (Contains ps) (λ q. IsHandedOn u qs (u q)) (λ q h. (q, inside q h, refl)) ps (All-contains_itself ps))

  of_given : (shows : Bool) (qs : List Question) → All (IsHandedOn u qs) (given shows u qs)
  of_given true qs = of_some qs qs (λ q h. h)
  of_given false qs = All-nil (IsHandedOn u qs)

  after : (q : Question) (qs : List Question) (p : Question) → Contains qs p → Contains (q ∷ qs) p
  after q qs p h = Contains-append_right (q ∷ []) qs p h

  of_branch : (b : Bool) (q : Question) (one other : Option Question) → All (IsHandedOn u (q ∷ (option_list one ++ option_list other))) (map u (branch b one other))
  of_branch true q one other = of_some (q ∷ (option_list one ++ option_list other)) (option_list one) (λ p h. after q (option_list one ++ option_list other) p (Contains-append_left (option_list one) (option_list other) p h))
  of_branch false q one other = of_some (q ∷ (option_list one ++ option_list other)) (option_list other) (λ p h. after q (option_list one ++ option_list other) p (Contains-append_right (option_list one) (option_list other) p h))

  hands_on : (w : Way) (matching : Matching) → All (IsHandedOn u (questions w)) (way_units w matching u).children
  hands_on (tells name ts) matching = All-nil (IsHandedOn u [])
  hands_on (passes_on qs) matching = of_some qs qs (λ q h. h)
  hands_on (passes_some os) matching = of_some (somes os) (somes os) (λ q h. h)
  hands_on (judges t qs) matching = of_given t.shows qs
  hands_on (branches q one other) matching = of_branch (report_of (u q)).valid q one other
  hands_on (asks_match name a text) matching = All-nil (IsHandedOn u [])

  abbrev ByAbsorbed : Way → Named → Type 0
  ByAbsorbed w a = Contains [] a.name × All (IsHandedOn u (questions w)) a.children

  absorbs_none : (w : Way) (matching : Matching) → (way_units w matching u).absorbed ≡ []
  absorbs_none (tells name ts) matching = refl
  absorbs_none (passes_on qs) matching = refl
  absorbs_none (passes_some os) matching = refl
  absorbs_none (judges t qs) matching = refl
  absorbs_none (branches q one other) matching = refl
  absorbs_none (asks_match name a text) matching = refl

pub ways_hand_units_on : {M : Type 0} (way : Bool → M → Subject → Way) (texts : Bool) → EachHandsUnitsOn (words_of way texts) (nothing_absorbed way)
ways_hand_units_on way texts m s matching u = record {
  own = hands_on u (way texts m s) matching;
  absorbed = All-same (ByAbsorbed u (way texts m s)) (way_units (way texts m s) matching u).absorbed [] (absorbs_none u (way texts m s) matching) (All-nil (ByAbsorbed u (way texts m s)));
}

-- the same for an author's keywords
pub own_hand_units_on : {M : Type 0} (way : M → Subject → Way) (texts : Bool) → EachHandsUnitsOn (own_words way texts) (own_absorbed way)
own_hand_units_on way = ways_hand_units_on (spoken_ways way)
