-- An instance is a value, or the name of a member, which counts as a text. A place is the path from
-- the root down: each step leads to a member, to an item, or to the name of a member. (Core
-- 2020-12, 4.2 and 10.3.2.4, propertyNames)
use Rattle.std.specs.Prelude.{Bool, List, None, Option, Some, [], bytes_eq, false, if◌then◌else◌, map, option_and_then, suc, true, zero, ℕ, ◌&&◌, ◌++◌, ◌+◌, ◌==◌, ◌∷◌}
use Rattle.serde_json.specs.Data.{Data, Items, Members, array, boolean, item, member, no_items, no_members, null, number, object, string}

-- A text, as its bytes.
abbrev pub Text : Type 0
Text = List ℕ

-- A step from a place to one below it: to a member, to an item, or to the name of a member.
pub data Step : Type 0 where
  to_member : Text → Step
  to_item : ℕ → Step
  to_name : Text → Step

-- The path from the root down.
abbrev pub Place : Type 0
Place = List Step

-- An instance: a value, or the name of a member, which counts as a text.
pub data Subject : Type 0 where
  a_value : Data → Subject
  a_name : Text → Subject

-- The value of the member with a name, if there is one.
abbrev pub member_of : Text → Members → Option Data
member_of k no_members = None
member_of k (member l d ms) = if bytes_eq k l then Some d else member_of k ms

-- The item with an index, if there is one.
abbrev pub item_of : ℕ → Items → Option Data
item_of n no_items = None
item_of zero (item d ds) = Some d
item_of (suc n) (item d ds) = item_of n ds

-- The value or the name that a step leads to, if there is one.
abbrev pub after_step : Step → Subject → Option Subject
after_step s (a_name k) = None
after_step (to_member k) (a_value (object ms)) = option_and_then (λ d. Some (a_value d)) (member_of k ms)
after_step (to_name k) (a_value (object ms)) = option_and_then (λ d. Some (a_name k)) (member_of k ms)
after_step (to_item n) (a_value (array ds)) = option_and_then (λ d. Some (a_value d)) (item_of n ds)
after_step s (a_value d) = None

-- The value or the name that a place leads to from a subject, if there is one.
abbrev pub subject_from : Place → Subject → Option Subject
subject_from [] x = Some x
subject_from (s ∷ p) x = option_and_then (subject_from p) (after_step s x)

-- The value or the name at a place of an instance, if there is one.
abbrev pub subject_at : Data → Place → Option Subject
subject_at d p = subject_from p (a_value d)

-- Every place of an instance, the root first.
abbrev mutual
  pub places : Data → List Place
  places null = [] ∷ []
  places (boolean b) = [] ∷ []
  places (number n) = [] ∷ []
  places (string s) = [] ∷ []
  places (array ds) = [] ∷ item_places 0 ds
  places (object ms) = [] ∷ member_places ms

  pub item_places : ℕ → Items → List Place
  item_places n no_items = []
  item_places n (item d ds) = map (λ p. to_item n ∷ p) (places d) ++ item_places (n + 1) ds

  pub member_places : Members → List Place
  member_places no_members = []
  member_places (member k d ms) = (to_name k ∷ []) ∷ (map (λ p. to_member k ∷ p) (places d) ++ member_places ms)

-- The same step.
abbrev pub same_step : Step → Step → Bool
same_step (to_member k) (to_member l) = bytes_eq k l
same_step (to_item m) (to_item n) = m == n
same_step (to_name k) (to_name l) = bytes_eq k l
same_step _ _ = false

-- The same place.
abbrev pub same_place : Place → Place → Bool
same_place [] [] = true
same_place (s ∷ p) (t ∷ q) = same_step s t && same_place p q
same_place _ _ = false
