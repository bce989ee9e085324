-- The numbers of places. `places` lists every place of an instance, and the number of a place is
-- its index in that list. A value comes first, then everything below it; in an object each name
-- comes before its member, in the order of the names' bytes; in an array items come in the order of
-- their indices. So the list ascends by the order that is defined here. Names and indices are the
-- reference tokens of a JSON Pointer. The name of a member is a place too, because `propertyNames`
-- validates it. (Core 2020-12, 10.3.2.4; sections 3 and 4 of RFC 6901)
use Rattle.std.specs.Prelude.{Bool, List, None, Option, Some, [], false, if◌then◌else◌, is_some, length, option_map, slice_index_or, true, ℕ, ◌&&◌, ◌||◌, ◌++◌, ◌+◌, ◌∷◌, ◌≡◌, ◌<◌, nat_lt}
use Rattle.std.specs.Cmp.Lexicographic.{slice_cmp}
use Rattle.std.specs.Ordering.{is_lt, nat_cmp}
use Rattle.serde_json.specs.Data.{Data}
use Rattle.theory_definitions.specs.Instance.{Place, Step, Text, same_place, same_step, subject_at, to_item, to_member, to_name}

-- the number of a place: how many places come before it in the list
abbrev pub number_of : Place → List Place → Option ℕ
number_of p [] = None
number_of p (q ∷ qs) = if same_place p q then Some 0 else option_map (λ n. n + 1) (number_of p qs)

-- the place that has a number
abbrev pub place_at : List Place → ℕ → Place
place_at ps n = slice_index_or ps n []

-- a place has a number exactly if the instance has a value or a name there
abbrev pub NumbersAll : Data → List Place → Type 0
NumbersAll d ps = (p : Place) → is_some (number_of p ps) ≡ is_some (subject_at d p)

-- each place in the list has the number at which the list holds it, so no place is listed twice
abbrev pub OwnNumbers : List Place → Type 0
OwnNumbers ps = (n : ℕ) → n < length ps → number_of (place_at ps n) ps ≡ Some n

-- the second place is the first one, or is below it
abbrev pub is_under : Place → Place → Bool
is_under [] q = true
is_under (s ∷ p) [] = false
is_under (s ∷ p) (t ∷ q) = same_step s t && is_under p q

-- if a place is in the list, then so is the place one step above it
abbrev pub Closed : List Place → Type 0
Closed ps = (p : Place) (s : Step) → is_some (number_of (p ++ s ∷ []) ps) ≡ true → is_some (number_of p ps) ≡ true

-- one text comes before another one by their bytes
abbrev pub text_before : Text → Text → Bool
text_before k l = is_lt (slice_cmp nat_cmp k l)

-- items are ordered by index, names and members by name, and a name comes before its member
abbrev pub step_before : Step → Step → Bool
step_before (to_item m) (to_item n) = nat_lt m n
step_before (to_name k) (to_name l) = text_before k l
step_before (to_name k) (to_member l) = text_before k l || same_step (to_name k) (to_name l)
step_before (to_member k) (to_name l) = text_before k l
step_before (to_member k) (to_member l) = text_before k l
step_before _ _ = false

-- a place comes before those below it; other places are ordered by the first step that differs
abbrev pub place_before : Place → Place → Bool
place_before [] [] = false
place_before [] (t ∷ q) = true
place_before (s ∷ p) [] = false
place_before (s ∷ p) (t ∷ q) = step_before s t || (same_step s t && place_before p q)

-- in the list each place comes before all that follow it, by that order
abbrev pub Ascends : List Place → Type 0
Ascends ps = (m n : ℕ) → m < n → n < length ps → place_before (place_at ps m) (place_at ps n) ≡ true
