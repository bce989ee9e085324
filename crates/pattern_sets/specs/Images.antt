-- Where a pattern leads from a set of positions.
use Rattle.std.specs.Prelude.{◌≡◌, ◌<◌, ◌≤◌, ◌+◌, ◌||◌, ℕ, Bool, true, false, List, Option, None, Some, length, slice_index, ◌==◌}
use Rattle.std.specs.Int.{bit_at}
use Rattle.pattern_rows.specs.declared.row.Row.{Row}
use Rattle.pattern_rows.specs.Rows.{has, width}
use Rattle.pattern_trees.specs.Sets.{in_set}
use Rattle.pattern_trees.specs.Patterns.{IsWithin, Iterates, Leads, Matches, Pattern}

-- a set is where a relation leads from another
pub record IsImage (R : ℕ → ℕ → Type 0) (from to : ℕ → Bool) : Type 0 where
  pub sound : (j : ℕ) → to j ≡ true → (i : ℕ) × (from i ≡ true) × R i j
  pub complete : (i j : ℕ) → from i ≡ true → R i j → to j ≡ true

-- the relation of a pattern, read from left to right or from right to left
abbrev pub leads : Bool → Pattern → List ℕ → ℕ → ℕ → Type 0
leads forward p text = Leads forward (λ i j. Matches p text i j)

-- a row is where a pattern leads from another row
pub record Walks (forward : Bool) (p : Pattern) (text : List ℕ) (from to : Row) : Type 0 where
  pub image : IsImage (leads forward p text) (has from) (has to)
  pub width : width to ≡ width from

-- the same of any relation
pub record Leaves (R : ℕ → ℕ → Type 0) (from to : Row) : Type 0 where
  pub image : IsImage R (has from) (has to)
  pub width : width to ≡ width from

-- the part of an image that comes from positions below one
pub record IsImageBelow (i : ℕ) (R : ℕ → ℕ → Type 0) (from to : ℕ → Bool) : Type 0 where
  pub sound : (j : ℕ) → to j ≡ true → (k : ℕ) × (k < i) × (from k ≡ true) × R k j
  pub complete : (k j : ℕ) → k < i → from k ≡ true → R k j → to j ≡ true

-- the part of an image that comes from positions which are not left
pub record IsImageBut (left : ℕ → Bool) (R : ℕ → ℕ → Type 0) (from to : ℕ → Bool) : Type 0 where
  pub sound : (j : ℕ) → to j ≡ true → (k : ℕ) × (from k ≡ true) × R k j
  pub complete : (k j : ℕ) → from k ≡ true → left k ≡ false → R k j → to j ≡ true

-- one round of a search: fresh positions lead to the next ones, which are none of those that were reached before
pub record Spreads (R : ℕ → ℕ → Type 0) (all fresh new next : ℕ → Bool) : Type 0 where
  pub added : (k : ℕ) → new k ≡ (all k || next k)
  pub led : (j : ℕ) → next j ≡ true → (i : ℕ) × (fresh i ≡ true) × R i j
  pub unknown : (j : ℕ) → next j ≡ true → all j ≡ false
  pub whole : (i j : ℕ) → fresh i ≡ true → R i j → new j ≡ true

-- one relation, then another
abbrev pub Joined : (ℕ → ℕ → Type 0) → (ℕ → ℕ → Type 0) → ℕ → ℕ → Type 0
Joined R S i j = (k : ℕ) × R i k × S k j

-- any number of steps, or at most so many
abbrev pub Steps : Option ℕ → (ℕ → ℕ → Type 0) → ℕ → ℕ → Type 0
Steps most R i j = (n : ℕ) × IsWithin n most × Iterates R n i j

-- the character after a position is in a set
abbrev pub IsTaken : List (ℕ × ℕ) → List ℕ → ℕ → Type 0
IsTaken set text i = (i < length text) × (in_set set (slice_index text i) ≡ true)

-- all characters from one position to another are in a set
abbrev pub Runs : List (ℕ × ℕ) → List ℕ → ℕ → ℕ → Type 0
Runs set text i j = (i ≤ j) × ((k : ℕ) → i ≤ k → k < j → IsTaken set text k)

-- where a run goes on that was seen as far as a start
pub record GoesOn (set : List (ℕ × ℕ)) (text : List ℕ) (start stop end : ℕ) : Type 0 where
  pub on : start ≤ end
  pub taken : (k : ℕ) → start ≤ k → k < end → (k < stop) × IsTaken set text k
  pub blocked : end < stop → ¬ (IsTaken set text end)

-- a run of characters of one set, from a position on, meets a character of another
abbrev pub Meets : List (ℕ × ℕ) → List (ℕ × ℕ) → List ℕ → ℕ → Type 0
Meets run last text i = (j : ℕ) × Runs run text i j × IsTaken last text j

-- it meets none up to where it ends
pub record Misses (run last : List (ℕ × ℕ)) (text : List ℕ) (i end : ℕ) : Type 0 where
  pub on : i ≤ end
  pub near : end ≤ i + length text
  pub unmet : (j : ℕ) → i ≤ j → j ≤ end → ¬ (IsTaken last text j)
  pub blocked : ¬ (IsTaken run text end)

-- so, and they are so many at least and so many at most
abbrev pub RunsFor : List (ℕ × ℕ) → List ℕ → ℕ → ℕ → ℕ → ℕ → Type 0
RunsFor set text least most i j = Runs set text i j × (i + least ≤ j) × (j ≤ i + most)

-- how many turns there may be, where no run is longer
abbrev pub most_within : ℕ → Option ℕ → ℕ
most_within longest None = longest
most_within longest (Some more) = more

-- a position of a word
abbrev pub in_word : ℕ → ℕ → Bool
in_word word k = bit_at word k == 1

-- whether a relation leads from a set to a position up to the last one
pub record Reaches (R : ℕ → ℕ → Type 0) (last : ℕ) (from : ℕ → Bool) (found : Bool) : Type 0 where
  pub yes : found ≡ true → (i : ℕ) × (j : ℕ) × (from i ≡ true) × (j ≤ last) × R i j
  pub no : found ≡ false → (i j : ℕ) → from i ≡ true → j ≤ last → ¬ (R i j)

-- a set of at most one position
abbrev pub IsOne : (ℕ → Bool) → Type 0
IsOne from = (x y : ℕ) → from x ≡ true → from y ≡ true → x ≡ y

-- a pattern that matches the empty text at each position
abbrev pub MatchesEmpty : Pattern → Type 0
MatchesEmpty p = (text : List ℕ) (i : ℕ) → Matches p text i i
