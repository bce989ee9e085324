-- What the fields of a solver hold: pairs by the numbers of their places, and verdicts as the bits
-- of rows. And what is true of the fields.
use Rattle.std.specs.List.{list_any}
use Rattle.std.specs.Prelude.{◌==◌, ◌&&◌, All, Bool, List, length, map, not, true, ℕ, ◌*◌, ◌/◌, ◌<◌, ◌≡◌}
use Rattle.theory_definitions.specs.Instance.{Place}
use Rattle.schema_places.specs.Numbers.{OwnNumbers, place_at}
use Rattle.schema_run_context.specs.Progress.{Pairs, row_words}
use Rattle.schema_run_context.specs.ProgressViews.{Holds, all_verdicts, pair_of}
use Rattle.schema_run_context.specs.Rows.{AreWide, has_bit, has_words, row_in}
use Rattle.schema_run_context.specs.Verdicts.{Remembers}
use Rattle.schema_solver_state.specs.Contexts.{SettlesAll, has_pair}
use Rattle.schema_run_context.specs.declared.numbered_pairs.NumberedPair.{NumberedPair}

-- pairs by the numbers of their places
abbrev pub pairs_at : List Place → List NumberedPair → Pairs
pairs_at ps es = map (pair_of ps) es

-- some pair has this number and this number of a place
abbrev pub has_number_pair : List NumberedPair → ℕ → ℕ → Bool
has_number_pair es n k = list_any (λ e. (e.node.0 == n) && (e.place == k)) es

-- the rows say which pairs are assumed, and each of these has a place of the instance
pub record Assumes (ps : List Place) (es : List NumberedPair) (yeses : List (List ℕ)) : Type 0 where
  pub bits : (n k : ℕ) → k < length ps → has_bit (row_in yeses n) k ≡ has_pair (pairs_at ps es) n (place_at ps k)
  pub placed : All (λ e. e.place < length ps) es
  pub wide : AreWide (row_words (length ps)) yeses

-- what is true of a solver's fields
pub record SolverHolds (ps : List Place) (pairs : List NumberedPair) (counts : List ℕ) (guard : List (List ℕ)) (assumed : List NumberedPair) (yeses known : List (List ℕ)) : Type 0 where
  pub progress : Holds ps (pairs_at ps pairs) counts guard known
  pub assumes : Assumes ps assumed yeses

-- each pair has its bit, in rows of one width
pub record HaveBits (es : List NumberedPair) (rows : List (List ℕ)) : Type 0 where
  pub words : ℕ
  pub wide : AreWide words rows
  pub there : All (λ e. (e.place / 64 < words) × (has_words (row_in rows e.node.0) ≡ true)) es

-- the rows lose the bits of these pairs, and no others
abbrev pub ClearsBits : List NumberedPair → List (List ℕ) → List (List ℕ) → Type 0
ClearsBits es old new = (n k : ℕ) → has_bit (row_in new n) k ≡ (has_bit (row_in old n) k && not (has_number_pair es n k))

-- the rows have room for the verdicts at this many places
abbrev pub HoldVerdicts : ℕ → List (List ℕ) → Type 0
HoldVerdicts count rows = AreWide (2 * row_words count) rows

-- the verdict of a pair is remembered, whatever the places are, if there are this many
abbrev pub KeepsVerdict : ℕ → ℕ → ℕ → Bool → List (List ℕ) → List (List ℕ) → Type 0
KeepsVerdict count n k v old new = (ps : List Place) → OwnNumbers ps → length ps ≡ count → Remembers n (place_at ps k) v (all_verdicts ps old) (all_verdicts ps new)

-- "valid" is remembered for these pairs
abbrev pub SettlesPairs : ℕ → List NumberedPair → List (List ℕ) → List (List ℕ) → Type 0
SettlesPairs count es old new = (ps : List Place) → OwnNumbers ps → length ps ≡ count → SettlesAll (pairs_at ps es) (all_verdicts ps old) (all_verdicts ps new)
