-- The rows of the code as contracts see them, read with its list of item and name numbers.
use Rattle.std.specs.Prelude.{List, [], length, map, slice_index_or, slice_range, ℕ, ◌∷◌, ◌<◌, ◌≤◌}
use Rattle.theory_definitions.specs.Instance.{Text}
use Rattle.schema_places.specs.Rows.{Laid, LaidBelow, items_below, members_below, nothing, own_name}
use Rattle.schema_places.specs.declared.rows.Below.{Below}
use Rattle.schema_places.specs.declared.rows.Below.TheVariants as below
use Rattle.schema_places.specs.declared.rows.Row.{Row}

abbrev pub below_of : List ℕ → Below → LaidBelow
below_of bs below.Nothing = nothing
below_of bs (below.Items from to) = items_below (slice_range bs from to)
below_of bs (below.Members from to) = members_below (slice_range bs from to)
below_of bs (below.Name s) = own_name s.now

abbrev pub row_of : List ℕ → Row → Laid
row_of bs r = record { last = r.last; below = below_of bs r.below }

abbrev pub rows_of : List ℕ → List Row → List Laid
rows_of bs rows = map (row_of bs) rows

abbrev pub empty_row : Row
empty_row = record { last = 0; below = below.Nothing }

abbrev pub last_at : List Row → ℕ → ℕ
last_at rows n = (slice_index_or rows n empty_row).last

abbrev pub text_of : Below → Text
text_of below.Nothing = []
text_of (below.Items from to) = []
text_of (below.Members from to) = []
text_of (below.Name s) = s.now

-- the name in a row
abbrev pub text_at : List Row → ℕ → Text
text_at rows n = text_of (slice_index_or rows n empty_row).below

-- the indices of a row are within a list of this length
abbrev pub IsWithin : ℕ → Below → Type 0
IsWithin b below.Nothing = Unit {0}
IsWithin b (below.Items from to) = (from ≤ to) × (to ≤ b)
IsWithin b (below.Members from to) = (from ≤ to) × (to ≤ b)
IsWithin b (below.Name s) = Unit {0}

abbrev pub AllWithin : ℕ → List Row → Type 0
AllWithin b [] = Unit {0}
AllWithin b (r ∷ rs) = IsWithin b r.below × AllWithin b rs

-- each number is below 2^63, so that the next one exists
abbrev pub AllSmall : List ℕ → Type 0
AllSmall [] = Unit {0}
AllSmall (b ∷ bs) = (b < 9223372036854775808) × AllSmall bs

-- the rows refer to numbers that the list has
pub record AreRows (bs : List ℕ) (rows : List Row) : Type 0 where
  pub within : AllWithin (length bs) rows
  pub small : AllSmall bs
