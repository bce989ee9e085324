-- The parts of a text, from the cut at the first mark.
use Rattle.std.proofs.Common.{◌≡◌, ◌∙◌, ◌+◌, ◌==◌, ◌&&◌, ◌<◌, ◌≤◌, Bool, List, [], ◌∷◌, None, Option, Some, ap, arith, false, inl, inr, length, refl, true, ℕ, option_map}
use Rattle.std.specs.List.{after_first, before_first, list_all, position_or_len}
use Rattle.std.proofs.lemmas.Bool.{cases_Bool, cases_lt, le-ltb, lt-ltb}
use Rattle.std.proofs.lemmas.List.Splits.{length-slice_split, slice_split_first}
use Rattle.text_formats.specs.Addresses.{groups, is_group, last_groups}
use Rattle.text_formats.specs.Characters.{Text}
use Rattle.text_formats.specs.Cutting.{cut, parts}
use Rattle.text_formats.specs.declared.addresses.Ending.{Ending}

cut_within : (m : ℕ) (t : Text) → position_or_len (λ c. c == m) t < length t
    → cut m t ≡ Some (before_first (λ c. c == m) t, after_first (λ c. c == m) t)
cut_within m t within = rw (lt-ltb _ _ within) refl

cut_past : (m : ℕ) (t : Text) → length t ≤ position_or_len (λ c. c == m) t → cut m t ≡ None
cut_past m t past = rw (le-ltb _ _ past) refl

abbrev pair_in : Option (Text × Text) → Text × Text
pair_in None = ([], [])
pair_in (Some p) = p

-- a text without a mark is one part
alone : (m : ℕ) (t : Text) → length t ≤ position_or_len (λ c. c == m) t → parts m t ≡ t ∷ []
alone m [] past = refl
alone m (c ∷ cs) past = elim (cases_Bool (c == m)) [
  | inl same ↦ absurd (let small : length (c ∷ cs) ≤ 0 = rw same at past in omega (arith, small))
  | inr other ↦
      let less : length cs ≤ position_or_len (λ d. d == m) cs = (let more = rw other at past in omega (arith, more)) in
      rw (other, alone m cs less) refl
]

-- a text that cannot be cut is one part
pub parts_alone : (m : ℕ) (t : Text) → None ≡ cut m t → parts m t ≡ t ∷ []
parts_alone m t none = elim (cases_lt (position_or_len (λ c. c == m) t) (length t)) [
  | inl within ↦ absurd (let off : None ≡ Some (before_first (λ c. c == m) t, after_first (λ c. c == m) t) = none ∙ cut_within m t within in cc)
  | inr past ↦ alone m t past
]

-- the first part is the text before the first mark
pub parts_after : (m : ℕ) (t front back : Text) → Some (front, back) ≡ cut m t → parts m t ≡ front ∷ parts m back
parts_after m t front back is = elim (cases_lt (position_or_len (λ c. c == m) t) (length t)) [
  | inl within ↦
      let same : Some (front, back) ≡ Some (before_first (λ c. c == m) t, after_first (λ c. c == m) t) = is ∙ cut_within m t within in
      let one : front ≡ before_first (λ c. c == m) t = ap (λ o. (pair_in o).0) same in
      let two : back ≡ after_first (λ c. c == m) t = ap (λ o. (pair_in o).1) same in
      rw (one, two) (slice_split_first (λ c. c == m) t 0 within)
  | inr past ↦ absurd (let off : Some (front, back) ≡ None = is ∙ cut_past m t past in cc)
]

-- all parts satisfy a predicate if the first does and the others do
pub each_after : (p : Text → Bool) (m : ℕ) (t front back : Text) → Some (front, back) ≡ cut m t
    → list_all p (parts m t) ≡ (p front && list_all p (parts m back))
each_after p m t front back is = rw (parts_after m t front back is) refl

pub each_goes_on : (p : Text → Bool) (m : ℕ) (t front back : Text) → Some (front, back) ≡ cut m t → p front ≡ true
    → list_all p (parts m t) ≡ list_all p (parts m back)
each_goes_on p m t front back is one = each_after p m t front back is ∙ rw one refl

pub each_stops : (p : Text → Bool) (m : ℕ) (t front back : Text) → Some (front, back) ≡ cut m t → p front ≡ false
    → list_all p (parts m t) ≡ false
each_stops p m t front back is one = each_after p m t front back is ∙ rw one refl

pub each_alone : (p : Text → Bool) (m : ℕ) (t : Text) → None ≡ cut m t → list_all p (parts m t) ≡ p t
each_alone p m t none = rw (parts_alone m t none) (and_true (p t))
  where
    and_true : (b : Bool) → (b && true) ≡ b
    and_true true = refl
    and_true false = refl

groups_cons : (ending : Ending) (p : Text) (qs : List Text) → 0 < length qs → is_group p ≡ true
    → groups ending (p ∷ qs) ≡ option_map (λ n. n + 1) (groups ending qs)
groups_cons ending p [] some is = absurd (omega (arith, some))
groups_cons ending p (q ∷ qs) some is = rw is refl

groups_stop : (ending : Ending) (p : Text) (qs : List Text) → 0 < length qs → is_group p ≡ false → groups ending (p ∷ qs) ≡ None
groups_stop ending p [] some is = absurd (omega (arith, some))
groups_stop ending p (q ∷ qs) some is = rw is refl

some_part : (m : ℕ) (t : Text) → 0 < length (parts m t)
some_part m t = omega (arith, length-slice_split (λ c. c == m) t)

one_more : (count : ℕ) (o : Option ℕ) → option_map (λ n. count + n) (option_map (λ n. n + 1) o) ≡ option_map (λ n. (count + 1) + n) o
one_more count None = refl
one_more count (Some n) = ap Some (omega arith)

-- a group before the first mark is counted
pub groups_counted : (ending : Ending) (t u front back : Text) (count : ℕ)
    → groups ending (parts 58 t) ≡ option_map (λ n. count + n) (groups ending (parts 58 u)) → Some (front, back) ≡ cut 58 u → is_group front ≡ true
    → groups ending (parts 58 t) ≡ option_map (λ n. (count + 1) + n) (groups ending (parts 58 back))
groups_counted ending t u front back count before is group =
    before ∙ ap (λ ps. option_map (λ n. count + n) (groups ending ps)) (parts_after 58 u front back is)
    ∙ ap (option_map (λ n. count + n)) (groups_cons ending front (parts 58 back) (some_part 58 back) group) ∙ one_more count (groups ending (parts 58 back))

-- if a part is not a group, then the parts together are not groups
pub groups_refused : (ending : Ending) (t u front back : Text) (count : ℕ)
    → groups ending (parts 58 t) ≡ option_map (λ n. count + n) (groups ending (parts 58 u)) → Some (front, back) ≡ cut 58 u → is_group front ≡ false
    → groups ending (parts 58 t) ≡ None
groups_refused ending t u front back count before is group =
    before ∙ ap (λ ps. option_map (λ n. count + n) (groups ending ps)) (parts_after 58 u front back is)
    ∙ ap (option_map (λ n. count + n)) (groups_stop ending front (parts 58 back) (some_part 58 back) group)

pub groups_ended : (ending : Ending) (t u : Text) (count : ℕ)
    → groups ending (parts 58 t) ≡ option_map (λ n. count + n) (groups ending (parts 58 u)) → None ≡ cut 58 u
    → groups ending (parts 58 t) ≡ option_map (λ n. count + n) (last_groups ending u)
groups_ended ending t u count before none =
    before ∙ ap (λ ps. option_map (λ n. count + n) (groups ending ps)) (parts_alone 58 u none)
