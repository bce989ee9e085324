-- The layout of places in rows: the row of each place holds the number of the last place at or
-- below it, and the steps to the places one step below it with their numbers.
use Rattle.std.specs.Prelude.{List, None, Option, Some, [], bytes_eq, if◌then◌else◌, length, slice_index_or, suc, zero, ℕ, ◌++◌, ◌+◌, ◌∷◌, ◌<◌, ◌≡◌}
use Rattle.std.specs.Cmp.Lexicographic.{slice_cmp}
use Rattle.std.specs.Ordering.{nat_cmp}
use Rattle.std.specs.declared.cmp.Ordering.TheVariants.{Less}
use Rattle.serde_json.specs.Data.{Data, Items, Members, array, boolean, item, member, no_items, no_members, null, number, object, string}
use Rattle.serde_json.specs.View.{view}
use Rattle.serde_json.specs.declared.value.Value.{Value}
use Rattle.theory_definitions.specs.Instance.{Place, Step, Text, item_places, member_places, places, same_step, to_item, to_member, to_name}
use Rattle.schema_places.specs.Numbers.{NumbersAll}

-- a step and the number of the place that it leads to
abbrev pub Led : Type 0
Led = Step × ℕ

-- a name, its number, and the number of its member
abbrev pub NameNumbers : Type 0
NameNumbers = Text × ℕ × ℕ

-- what is one step below a place: nothing, items with these numbers, or names with these numbers,
-- each followed by its member; nothing is below a name, and its row holds the name
pub data LaidBelow : Type 0 where
  nothing : LaidBelow
  items : List ℕ → LaidBelow
  members : List ℕ → LaidBelow
  own_name : Text → LaidBelow

-- items with these numbers, or nothing if there are none
abbrev pub items_below : List ℕ → LaidBelow
items_below [] = nothing
items_below (b ∷ bs) = items (b ∷ bs)

-- names with these numbers, or nothing if there are none
abbrev pub members_below : List ℕ → LaidBelow
members_below [] = nothing
members_below (b ∷ bs) = members (b ∷ bs)

abbrev pub name_of : LaidBelow → Text
name_of nothing = []
name_of (items bs) = []
name_of (members bs) = []
name_of (own_name k) = k

pub record Laid : Type 0 where
  pub last : ℕ
  pub below : LaidBelow

abbrev pub laid : ℕ → LaidBelow → Laid
laid n b = record { last = n; below = b }

-- the row of the place that has a number
abbrev pub row_in : List Laid → ℕ → Laid
row_in rows n = slice_index_or rows n (laid 0 nothing)

abbrev pub last_in : List Laid → ℕ → ℕ
last_in rows n = (row_in rows n).last

-- the name that a row holds
abbrev pub name_in : List Laid → ℕ → Text
name_in rows n = name_of (row_in rows n).below

-- the names at these numbers: each with its number and the next one, which is its member's
abbrev pub named_by : (ℕ → Text) → List ℕ → List NameNumbers
named_by f [] = []
named_by f (b ∷ bs) = (f b, b, b + 1) ∷ named_by f bs

-- the number of the place that a step leads to
abbrev pub led_by : Step → List Led → Option ℕ
led_by s [] = None
led_by s (l ∷ ls) = if same_step s l.0 then Some l.1 else led_by s ls

-- the steps to items with these numbers, beginning at an index
abbrev pub leads_to_items : ℕ → List ℕ → List Led
leads_to_items n [] = []
leads_to_items n (b ∷ bs) = (to_item n, b) ∷ leads_to_items (n + 1) bs

-- the steps to names and members
abbrev pub leads_to_names : List NameNumbers → List Led
leads_to_names [] = []
leads_to_names (m ∷ ms) = (to_name m.0, m.1) ∷ (to_member m.0, m.2) ∷ leads_to_names ms

abbrev pub leads_of : List Laid → LaidBelow → List Led
leads_of rows nothing = []
leads_of rows (items bs) = leads_to_items 0 bs
leads_of rows (members bs) = leads_to_names (named_by (name_in rows) bs)
leads_of rows (own_name k) = []

-- the number of a name
abbrev pub number_of_name : Text → List NameNumbers → Option ℕ
number_of_name k [] = None
number_of_name k (m ∷ ms) = if bytes_eq k m.0 then Some m.1 else number_of_name k ms

-- the numbers of `count` places that follow one another below a place, beginning with `n`. Each
-- number is one past the last number at or below the place before it. For an item the gap is 0. For
-- a name it is 1: the last number is that of its member, which has the number after the name's
abbrev pub numbers_from : (ℕ → ℕ) → ℕ → ℕ → ℕ → List ℕ
numbers_from last gap n zero = []
numbers_from last gap n (suc count) = n ∷ numbers_from last gap (last (n + gap) + 1) count

-- every number that `numbers_from` looks up or finds there is less than `size`
abbrev pub Walks : (ℕ → ℕ) → ℕ → ℕ → ℕ → ℕ → Type 0
Walks last size gap n zero = Unit {0}
Walks last size gap n (suc count) = (n + gap < size) × (last (n + gap) < size) × Walks last size gap (last (n + gap) + 1) count

-- the numbers of the items of an array, and of the names of an object, beginning with a number
abbrev pub item_numbers : ℕ → Items → List ℕ
item_numbers b no_items = []
item_numbers b (item d ds) = b ∷ item_numbers (b + length (places d)) ds

abbrev pub name_numbers : ℕ → Members → List ℕ
name_numbers b no_members = []
name_numbers b (member k d ms) = b ∷ name_numbers (b + 1 + length (places d)) ms

-- the rows of all places of a value, with numbers that begin at this one
abbrev mutual
  pub rows_at : ℕ → Data → List Laid
  rows_at b null = laid b nothing ∷ []
  rows_at b (boolean x) = laid b nothing ∷ []
  rows_at b (number n) = laid b nothing ∷ []
  rows_at b (string s) = laid b nothing ∷ []
  rows_at b (array ds) = laid (b + length (item_places 0 ds)) (items_below (item_numbers (b + 1) ds)) ∷ item_rows (b + 1) ds
  rows_at b (object ms) = laid (b + length (member_places ms)) (members_below (name_numbers (b + 1) ms)) ∷ member_rows (b + 1) ms

  pub item_rows : ℕ → Items → List Laid
  item_rows b no_items = []
  item_rows b (item d ds) = rows_at b d ++ item_rows (b + length (places d)) ds

  pub member_rows : ℕ → Members → List Laid
  member_rows b no_members = []
  member_rows b (member k d ms) = laid b (own_name k) ∷ (rows_at (b + 1) d ++ member_rows (b + 1 + length (places d)) ms)

-- a name comes before all of these
abbrev pub IsFirst : Text → List NameNumbers → Type 0
IsFirst k [] = Unit {0}
IsFirst k (m ∷ ms) = (slice_cmp nat_cmp k m.0 ≡ Less) × IsFirst k ms

-- each name comes before those that follow it
abbrev pub Rising : List NameNumbers → Type 0
Rising [] = Unit {0}
Rising (m ∷ ms) = IsFirst m.0 ms × Rising ms

-- if names are below a place, then they ascend
abbrev pub RisesBelow : List Laid → LaidBelow → Type 0
RisesBelow rows nothing = Unit {0}
RisesBelow rows (items bs) = Unit {0}
RisesBelow rows (members bs) = Rising (named_by (name_in rows) bs)
RisesBelow rows (own_name k) = Unit {0}

-- a name comes before all names of an object
abbrev pub ComesFirst : Text → Members → Type 0
ComesFirst k no_members = Unit {0}
ComesFirst k (member l d ms) = (slice_cmp nat_cmp k l ≡ Less) × ComesFirst k ms

-- in each object the names ascend by their bytes
abbrev mutual
  pub NamesAscend : Data → Type 0
  NamesAscend null = Unit {0}
  NamesAscend (boolean b) = Unit {0}
  NamesAscend (number n) = Unit {0}
  NamesAscend (string s) = Unit {0}
  NamesAscend (array ds) = NamesAscendInItems ds
  NamesAscend (object ms) = NamesAscendInMembers ms

  pub NamesAscendInItems : Items → Type 0
  NamesAscendInItems no_items = Unit {0}
  NamesAscendInItems (item d ds) = NamesAscend d × NamesAscendInItems ds

  pub NamesAscendInMembers : Members → Type 0
  NamesAscendInMembers no_members = Unit {0}
  NamesAscendInMembers (member k d ms) = ComesFirst k ms × NamesAscend d × NamesAscendInMembers ms

-- the places of a value
abbrev pub places_of : Value → List Place
places_of v = places (view v)

-- these are the places of a value, and exactly those that exist in it have a number
abbrev pub ArePlacesOf : Value → List Place → Type 0
ArePlacesOf v ps = (ps ≡ places (view v)) × NumbersAll (view v) ps

-- the rows are those of a value's places, and in each object the names ascend
pub record LaidOut (v : Value) (rows : List Laid) : Type 0 where
  pub rows_are : rows ≡ rows_at 0 (view v)
  pub ascend : NamesAscend (view v)
