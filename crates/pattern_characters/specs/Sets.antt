-- Sets of characters: a test of code points, and the spans of those that pass it.
use Rattle.std.specs.Prelude.{ℕ, zero, suc, ◌+◌, ◌-◌, ◌≤◌, min, max, Bool, true, false, not, ◌&&◌, ◌||◌, ◌==◌, nat_le, nat_lt, List, [], ◌∷◌, ◌++◌, if◌then◌else◌}
use Rattle.std.specs.List.{list_any}
use Rattle.unicode.specs.CaseFolding.{fold_pairs}
use Rattle.ucd_sets.specs.Sets as property
use Rattle.pattern_trees.specs.Sets.{in_set}
use Rattle.pattern_trees.specs.Patterns.{is_line_end}
use Rattle.pattern_trees.specs.Nodes.{Node, OneOf}
use Rattle.pattern_characters.specs.Characters.{is_between, clamped}
use Rattle.pattern_characters.specs.declared.parts.Flags.{Flags}
use Rattle.pattern_characters.specs.declared.parts.Letter.{Letter}
use Rattle.pattern_characters.specs.declared.parts.Letter.TheVariants.{Digits, Spaces, Words}
use Rattle.pattern_characters.specs.declared.parts.Member.{Member}
use Rattle.pattern_characters.specs.declared.parts.Member.TheVariants.{One, Of, With}

abbrev pub Spans : Type 0
Spans = List (ℕ × ℕ)

-- the spans with one more code point, right before their first or apart from it
abbrev pub with_first : ℕ → Spans → Spans
with_first c [] = (c, c) ∷ []
with_first c (s ∷ rest) = if s.0 == c + 1 then (c, s.1) ∷ rest else (c, c) ∷ s ∷ rest

-- the spans of the code points that pass a test, among n from c on
unfoldable pub spans_from : (ℕ → Bool) → ℕ → ℕ → Spans
spans_from p zero c = []
spans_from p (suc n) c = if p c then with_first c (spans_from p n (c + 1)) else spans_from p n (c + 1)

-- the spans of the code points that pass a test, in order, as few as there can be
unfoldable pub spans_where : (ℕ → Bool) → Spans
spans_where p = spans_from p 0x11_0000 0

-- spans in order, from a code point on, with a gap after each
abbrev pub Ascends : ℕ → Spans → Type 0
Ascends low [] = Unit {0}
Ascends low (s ∷ rest) = (low ≤ s.0) × (s.0 ≤ s.1) × (s.1 ≤ 0x10_FFFF) × Ascends (s.1 + 2) rest

-- a span, with those that it meets, before the spans that are left
unfoldable pub merged : ℕ → ℕ → Spans → Spans
merged low high [] = (low, high) ∷ []
merged low high (s ∷ rest) =
    if nat_lt (clamped (high + 1)) s.0 then (low, high) ∷ s ∷ rest else merged (min low s.0) (max high s.1) rest

-- the spans with one more span, joined to those that it meets
unfoldable pub inserted : ℕ → ℕ → Spans → Spans
inserted low high [] = merged low high []
inserted low high (s ∷ rest) = if nat_lt s.1 (low - 1) then s ∷ inserted low high rest else merged low high (s ∷ rest)

-- the code points from one on and before another
abbrev pub gap : ℕ → ℕ → Spans
gap next first = if nat_lt next first then (next, first - 1) ∷ [] else []

-- the gaps between the spans, from a code point on
unfoldable pub gaps : ℕ → Spans → Spans
gaps next [] = gap next 0x11_0000
gaps next (s ∷ rest) = gap next s.0 ++ gaps (clamped (s.1 + 1)) rest

-- CharacterClassEscape (22.2.2.9): d, s (WhiteSpace and LineTerminator, 12.2 and 12.3) and w (WordCharacters, 22.2.2.9.3).
-- Under the flag i the words have the two further characters that fold to a letter of them.
abbrev pub letter_spans : Bool → Letter → Spans
letter_spans ignore_case Digits = (48, 57) ∷ []
letter_spans ignore_case Spaces =
    (9, 13) ∷ (32, 32) ∷ (0xA0, 0xA0) ∷ (0x1680, 0x1680) ∷ (0x2000, 0x200A) ∷ (0x2028, 0x2029)
    ∷ (0x202F, 0x202F) ∷ (0x205F, 0x205F) ∷ (0x3000, 0x3000) ∷ (0xFEFF, 0xFEFF) ∷ []
letter_spans true Words = (48, 57) ∷ (65, 90) ∷ (95, 95) ∷ (97, 122) ∷ (0x17F, 0x17F) ∷ (0x212A, 0x212A) ∷ []
letter_spans false Words = (48, 57) ∷ (65, 90) ∷ (95, 95) ∷ (97, 122) ∷ []

-- all but those
abbrev pub unless : Bool → Bool → Bool
unless negated found = if negated then not found else found

-- a code point is of a part of a class
abbrev pub has_member : Bool → Member → ℕ → Bool
has_member ignore_case (One v) c = c == v
has_member ignore_case (Of letter negated) c = unless negated (in_set (letter_spans ignore_case letter) c)
has_member ignore_case (With set negated) c = unless negated (property.in_set set c)

-- a member that is one character is a code point
abbrev pub IsMember : Member → Type 0
IsMember (One v) = v ≤ 0x10_FFFF
IsMember (Of letter negated) = Unit {0}
IsMember (With set negated) = Unit {0}

-- the spans with those code points too that pass a test
unfoldable pub with_more : Spans → (ℕ → Bool) → Spans
with_more spans p = spans_where (λ c. in_set spans c || p c)

-- the spans with those of further spans, one by one
unfoldable pub with_spans : Spans → Spans → Spans
with_spans spans [] = spans
with_spans spans (s ∷ rest) = with_spans (with_more spans (is_between s.0 s.1)) rest

-- the other code points
unfoldable pub others : Spans → Spans
others spans = spans_where (λ c. not (in_set spans c))

-- the code points with the simple case folding of one of the set (22.2.2.7.1, CharacterSetMatcher; 22.2.2.7.3, Canonicalize)
abbrev pub has_twin : Spans → ℕ → Bool
has_twin spans c = list_any (λ pair. (pair.0 == c) && in_set spans pair.1) fold_pairs

-- one span for each code point of the pairs whose other one is in the set
abbrev pub twins : Spans → Spans → Spans
twins spans [] = []
twins spans (pair ∷ pairs) = if nat_le pair.0 0x10_FFFF && in_set spans pair.1 then (pair.0, pair.0) ∷ twins spans pairs else twins spans pairs

unfoldable pub folded : Bool → Spans → Spans
folded ignore_case spans = if ignore_case then with_more spans (has_twin spans) else spans

-- one character of the set of a member
unfoldable pub member_node : Flags → Member → Node
member_node flags m = OneOf (folded flags.ignore_case (with_more [] (has_member flags.ignore_case m)))

-- Atom :: . (22.2.2.7): any character but a line terminator, or under the flag s any character
unfoldable pub dot_node : Flags → Node
dot_node flags = OneOf (spans_where (λ c. flags.dot_all || not (is_line_end c)))
