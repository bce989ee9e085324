-- Sets of characters, by the spans of their code points.
use Rattle.std.specs.Prelude.{ℕ, ◌<◌, ◌≤◌, Bool, false, ◌&&◌, ◌||◌, nat_le, List, [], ◌∷◌, length, slice_index_or}

-- a code point is in one of the spans, each from its first to its last one
abbrev pub in_set : List (ℕ × ℕ) → ℕ → Bool
in_set [] c = false
in_set (s ∷ rest) c = (nat_le s.0 c && nat_le c s.1) || in_set rest c

abbrev pub span_at : List (ℕ × ℕ) → ℕ → ℕ × ℕ
span_at spans i = slice_index_or spans i (0, 0)

-- each of the first spans has a code point, and ends before the later ones begin
abbrev pub AreInOrder : List (ℕ × ℕ) → ℕ → Type 0
AreInOrder spans count =
    ((k : ℕ) → k < count → (span_at spans k).0 ≤ (span_at spans k).1) × ((j k : ℕ) → j < k → k < count → (span_at spans j).1 < (span_at spans k).0)

-- so all spans
abbrev pub IsInOrder : List (ℕ × ℕ) → Type 0
IsInOrder spans = AreInOrder spans (length spans)
