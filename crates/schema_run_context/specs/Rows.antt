-- Rows of bits by number. A row is a list of 64-bit words; a number has a row if its row has words.
use Rattle.std.specs.Prelude.{ℕ, ◌≡◌, ◌==◌, ◌+◌, ◌*◌, ◌/◌, ◌%◌, ◌&&◌, Bool, true, false, List, [], ◌∷◌, ◌++◌, Option, None, Some, if◌then◌else◌, length, slice_index_or}
use Rattle.std.specs.Int.{bit_at}
use Rattle.schema_run_context.specs.Progress.{Adds}

-- a bit of a row
abbrev pub has_bit : List ℕ → ℕ → Bool
has_bit words b = bit_at (slice_index_or words (b / 64) 0) (b % 64) == 1

-- the verdict at a place: the first half of the row has the places whose verdict is known, and the
-- second half has the verdicts
abbrev pub verdict_in : List ℕ → ℕ → Option Bool
verdict_in words k = if has_bit words k then Some (has_bit words (64 * (length words / 2) + k)) else None

-- the row of a number; it has no words if the number has no row
abbrev pub row_in : List (List ℕ) → ℕ → List ℕ
row_in rows n = slice_index_or rows n []

abbrev pub has_words : List ℕ → Bool
has_words [] = false
has_words (w ∷ ws) = true

-- the numbers that have a row; the first row belongs to a number
abbrev pub numbers_from : ℕ → List (List ℕ) → List ℕ
numbers_from k [] = []
numbers_from k (r ∷ rs) = (if has_words r then k ∷ [] else []) ++ numbers_from (k + 1) rs

-- the numbers that have a row, each once
abbrev pub row_numbers : List (List ℕ) → List ℕ
row_numbers rows = numbers_from 0 rows

-- the number of words in all rows
abbrev pub words_in : List (List ℕ) → ℕ
words_in [] = 0
words_in (r ∷ rs) = length r + words_in rs

-- each row has this many words
abbrev pub AreWide : ℕ → List (List ℕ) → Type 0
AreWide w rows = (n : ℕ) → has_words (row_in rows n) ≡ true → length (row_in rows n) ≡ w

-- each number keeps its row
abbrev pub SameRows : List (List ℕ) → List (List ℕ) → Type 0
SameRows old new = (n : ℕ) → row_in new n ≡ row_in old n

-- a number gets a row, unless it has one, and no bit changes
pub record MakesRow (n w : ℕ) (old new : List (List ℕ)) : Type 0 where
  pub bits : (q b : ℕ) → has_bit (row_in new q) b ≡ has_bit (row_in old q) b
  pub numbers : Adds n (row_numbers old) (row_numbers new)
  pub wide : AreWide w old → AreWide w new
  pub there : has_words (row_in new n) ≡ true

-- a bit of a row is set or cleared, and no other bit changes
pub record PutsBit (n b : ℕ) (on : Bool) (old new : List (List ℕ)) : Type 0 where
  pub bits : (q c : ℕ) → has_bit (row_in new q) c ≡ (if (n == q) && (b == c) then on else has_bit (row_in old q) c)
  pub numbers : row_numbers new ≡ row_numbers old
  pub wide : (w : ℕ) → AreWide w old → AreWide w new
