-- Sets of positions, as words of 64 bits: the first word, and those after it.
use Rattle.std.specs.Prelude.{ℕ, ◌/◌, ◌%◌, ◌==◌, Bool, List, ◌∷◌, length, slice_index}
use Rattle.std.specs.Int.{bit_at}
use Rattle.pattern_rows.specs.declared.row.Row.{Row}

-- a bit of a list of words
abbrev pub bit_of : List ℕ → ℕ → Bool
bit_of words k = bit_at (slice_index words (k / 64)) (k % 64) == 1

abbrev pub words_of : Row → List ℕ
words_of r = r.low ∷ r.high.items

-- whether a position is in the set
unfoldable pub has : Row → ℕ → Bool
has r k = bit_of (words_of r) k

-- how many words stand after the first
abbrev pub width : Row → ℕ
width r = length r.high.items
