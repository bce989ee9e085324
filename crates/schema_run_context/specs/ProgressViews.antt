-- How the fields of the code's context hold the state of a run: pairs by the numbers of their
-- places, verdicts as bits in rows.
use Rattle.std.specs.Prelude.{ℕ, ◌≡◌, ◌<◌, ◌+◌, ◌*◌, ◌⊎◌, ◌==◌, List, [], ◌∷◌, ◌++◌, if◌then◌else◌, length, slice_index_or}
use Rattle.std.specs.List.{list_any}
use Rattle.theory_definitions.specs.Instance.{Place}
use Rattle.schema_places.specs.Numbers.{OwnNumbers, place_at}
use Rattle.schema_run_context.specs.Progress.{Distinct, Pairs, Verdicts, busy_at, row_words}
use Rattle.schema_run_context.specs.Rows.{AreWide, has_bit, row_in}
use Rattle.schema_run_context.specs.declared.numbered_pairs.NumberedPair.{NumberedPair}

-- the pair of a node and the place that has a number
abbrev pub pair_of : List Place → NumberedPair → ℕ × Place
pair_of ps e = (e.node.0, place_at ps e.place)

-- the verdicts of a node at the places that begin with a number; its row first has the places whose
-- verdict is known, and then the verdicts
abbrev pub node_verdicts : ℕ → ℕ → List ℕ → ℕ → List Place → Verdicts
node_verdicts n w words k [] = []
node_verdicts n w words k (p ∷ ps) = (if has_bit words k then ((n, p), has_bit words (64 * w + k)) ∷ [] else []) ++ node_verdicts n w words (k + 1) ps

-- the verdicts of all nodes, one node after another; the first row belongs to the node with a
-- number
abbrev pub verdicts_from : ℕ → List Place → List (List ℕ) → Verdicts
verdicts_from n ps [] = []
verdicts_from n ps (r ∷ rs) = node_verdicts n (row_words (length ps)) r 0 ps ++ verdicts_from (n + 1) ps rs

abbrev pub all_verdicts : List Place → List (List ℕ) → Verdicts
all_verdicts ps rows = verdicts_from 0 ps rows

-- the guard's rows and the counts agree with the pairs in progress
pub record Guards (ps : List Place) (es : Pairs) (counts : List ℕ) (guard : List (List ℕ)) : Type 0 where
  pub bits : (n k : ℕ) → k < length ps → has_bit (row_in guard n) k ≡ list_any (λ i. i == n) (busy_at (place_at ps k) es)
  pub counted : (k : ℕ) → k < length ps → slice_index_or counts k 0 ≡ length (busy_at (place_at ps k) es)
  pub sized : (length counts ≡ 0) ⊎ (length counts ≡ length ps)

-- the invariant of the fields: each place has its own number, or nothing is in progress or
-- remembered yet; the guard agrees with the pairs in progress, and no pair is listed twice; each
-- row is as wide as the number of places requires
pub record Holds (ps : List Place) (es : Pairs) (counts : List ℕ) (guard known : List (List ℕ)) : Type 0 where
  pub numbered : OwnNumbers ps ⊎ ((es ≡ []) × (known ≡ []))
  pub distinct : Distinct es
  pub guards : Guards ps es counts guard
  pub wide_guard : AreWide (row_words (length ps)) guard
  pub wide_known : AreWide (2 * row_words (length ps)) known
