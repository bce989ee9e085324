-- What a pattern without back references means: from which position of a text to which other it
-- matches. Position i is before the character i, which counts from 0. What such a pattern captures,
-- the order in which it tries, and whether it is greedy do not change whether it matches.
-- (ECMA-262, 2025; the sections are at the definitions)
use Rattle.std.specs.Prelude.{◌≡◌, ◌≢◌, ℕ, zero, suc, ◌+◌, ◌<◌, ◌≤◌, ◌⊎◌, Bool, true, false, ◌&&◌, ◌||◌, nat_lt, ◌==◌, List, [], ◌∷◌, length, slice_index, Option, Some, None}
use Rattle.pattern_trees.specs.Sets.{in_set}
use Rattle.pattern_trees.specs.declared.tree.Edge.{Edge}
use Rattle.pattern_trees.specs.declared.tree.Edge.TheVariants.{TextStart, TextEnd, LineStart, LineEnd, WordEdge, NoWordEdge}

-- the line terminators (12.3): line feed, carriage return, line and paragraph separator
abbrev pub is_line_end : ℕ → Bool
is_line_end c = in_set ((10, 10) ∷ (13, 13) ∷ (8232, 8233) ∷ []) c

pub data Pattern : Type 0 where
  -- nothing (22.2.2.3, Alternative :: [empty])
  Empty : Pattern
  -- one character of a set (22.2.2.7, Atom; 22.2.2.7.1, CharacterSetMatcher); no character is in an empty set
  One : (set : List (ℕ × ℕ)) → Pattern
  -- one after the other (22.2.2.3, Alternative Term; MatchSequence)
  Then : (first second : Pattern) → Pattern
  -- one or the other (22.2.2.3, Disjunction; MatchTwoAlternatives)
  Either : (left right : Pattern) → Pattern
  -- at least so many times, and at most so many more, or any number more (22.2.2.3.1, RepeatMatcher)
  Repeat : (least : ℕ) (more : Option ℕ) (body : Pattern) → Pattern
  -- ^ $ \b \B, and ^ $ under the flag m (22.2.2.4)
  At : (edge : Edge) → Pattern
  -- (?= ) (?! ) with ahead, (?<= ) (?<! ) without; wanted says that the body is to match (22.2.2.4)
  Look : (ahead wanted : Bool) (body : Pattern) → Pattern

-- a word character: WordCharacters (22.2.2.9.4) without the flag i: a-z, A-Z, 0-9 and _
abbrev pub is_word : ℕ → Bool
is_word c = in_set ((48, 57) ∷ (65, 90) ∷ (95, 95) ∷ (97, 122) ∷ []) c

-- IsWordChar (22.2.2.4.1) of the character after a position, and of that before it
abbrev pub word_after : List ℕ → ℕ → Bool
word_after text i = nat_lt i (length text) && is_word (slice_index text i)

abbrev pub word_before : List ℕ → ℕ → Bool
word_before text zero = false
word_before text (suc i) = word_after text i

-- a line starts and ends at the ends of the text, and at a line terminator
abbrev pub starts_line : List ℕ → ℕ → Bool
starts_line text zero = true
starts_line text (suc i) = nat_lt i (length text) && is_line_end (slice_index text i)

abbrev pub ends_line : List ℕ → ℕ → Bool
ends_line text i = (i == length text) || (nat_lt i (length text) && is_line_end (slice_index text i))

abbrev pub IsAt : Edge → List ℕ → ℕ → Type 0
IsAt TextStart text i = i ≡ 0
IsAt TextEnd text i = i ≡ length text
IsAt LineStart text i = starts_line text i ≡ true
IsAt LineEnd text i = ends_line text i ≡ true
IsAt WordEdge text i = word_before text i ≢ word_after text i
IsAt NoWordEdge text i = word_before text i ≡ word_after text i

-- n steps of a relation
abbrev pub Iterates : (ℕ → ℕ → Type 0) → ℕ → ℕ → ℕ → Type 0
Iterates R zero i j = i ≡ j
Iterates R (suc n) i j = (k : ℕ) × R i k × Iterates R n k j

-- a relation read from its start to its end, or from its end to its start
abbrev pub Leads : Bool → (ℕ → ℕ → Type 0) → ℕ → ℕ → Type 0
Leads true R i j = R i j
Leads false R i j = R j i

abbrev pub IsWithin : ℕ → Option ℕ → Type 0
IsWithin n None = Unit {0}
IsWithin n (Some most) = n ≤ most

abbrev pub IfWanted : Bool → Type 0 → Type 0
IfWanted true P = P
IfWanted false P = ¬ P

-- the pattern matches the text from position i to position j
abbrev pub Matches : Pattern → List ℕ → ℕ → ℕ → Type 0
Matches Empty text i j = i ≡ j
Matches (One set) text i j = (i < length text) × (in_set set (slice_index text i) ≡ true) × (j ≡ i + 1)
Matches (Then a b) text i j = (k : ℕ) × Matches a text i k × Matches b text k j
Matches (Either a b) text i j = Matches a text i j ⊎ Matches b text i j
Matches (Repeat least more body) text i j = (n : ℕ) × IsWithin n more × Iterates (λ x y. Matches body text x y) (least + n) i j
Matches (At edge) text i j = IsAt edge text i × (i ≡ j)
Matches (Look ahead wanted body) text i j =
    IfWanted wanted ((k : ℕ) × (k ≤ length text) × Leads ahead (λ x y. Matches body text x y) i k) × (i ≡ j)

-- the pattern matches somewhere in the text: RegExp.prototype.test (22.2.6.16) of an expression without the flags g and y
abbrev pub IsFound : Pattern → List ℕ → Type 0
IsFound p text = (i : ℕ) × (j : ℕ) × (i ≤ length text) × Matches p text i j
