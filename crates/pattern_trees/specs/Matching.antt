-- What a pattern matches (ECMA-262, 22.2.2, under the flag u). The standard's matcher of a node takes
-- a state and a continuation. Here a node has the list of the states at which it calls its
-- continuation, in that order. The first one from which the rest of the pattern succeeds wins, so a
-- sequence is a `flat_map`, and a pattern matches if its list is not empty.
use Rattle.std.specs.Prelude.{ℕ, zero, suc, ◌+◌, ◌-◌, Bool, true, false, List, [], ◌∷◌, ◌++◌, Option, Some, None, map, length, if◌then◌else◌, nat_eq, nat_le, not, ◌&&◌, ◌||◌, option_map, slice_set, slice_get, slice_index_or}
use Rattle.std.proofs.Common.{replicate}
use Rattle.std.specs.List.{flat_map}
use Rattle.pattern_trees.specs.Nodes.{Node, Nothing, OneOf, At, Reference, Group, Around, Times, Pair, Choice}
use Rattle.pattern_trees.specs.Patterns as places
use Rattle.pattern_trees.specs.Sets.{in_set}
use Rattle.pattern_trees.specs.declared.tree.Edge.{Edge}
use Rattle.pattern_trees.specs.declared.tree.Edge.TheVariants.{TextStart, TextEnd, LineStart, LineEnd, WordEdge, NoWordEdge}
use Rattle.pattern_trees.specs.declared.tree.Look.{Look}
use Rattle.pattern_trees.specs.declared.tree.Span.{Span}
use Rattle.pattern_trees.specs.declared.tree.Turns.{Turns}

-- the code points of a subject
abbrev pub Chars : Type 0
Chars = List ℕ

-- what each group took last
abbrev pub Captures : Type 0
Captures = List (Option Span)

-- a MatchState
pub record State : Type 0 where
  pub place : ℕ
  pub captures : Captures

-- CharacterSetMatcher (22.2.2.7.1)

-- the code point that is passed over next, ahead or back
abbrev pub next_char : Bool → Chars → ℕ → Option ℕ
next_char true s i = slice_get s i
next_char false s zero = None
next_char false s (suc i) = slice_get s i

abbrev pub moved : Bool → ℕ → ℕ
moved true i = i + 1
moved false i = i - 1

abbrev pub has_in : List (ℕ × ℕ) → Option ℕ → Bool
has_in set None = false
has_in set (Some c) = in_set set c

-- the state that goes on, if there is a place to go on from
abbrev pub then_at : Captures → Option ℕ → List State
then_at cs None = []
then_at cs (Some i) = record { place = i; captures = cs } ∷ []

abbrev pub only_if : Bool → ℕ → Option ℕ
only_if b i = if b then Some i else None

abbrev pub after_char : List (ℕ × ℕ) → Bool → Chars → ℕ → Option ℕ
after_char set ahead s i = only_if (has_in set (next_char ahead s i)) (moved ahead i)

-- the assertions (22.2.2.4), with IsWordChar (22.2.2.4.1)

abbrev pub is_boundary : Chars → ℕ → Bool
is_boundary s i = if places.word_before s i then not (places.word_after s i) else places.word_after s i

abbrev pub holds_at : Edge → Chars → ℕ → Bool
holds_at TextStart s i = nat_eq i 0
holds_at TextEnd s i = nat_eq i (length s)
holds_at LineStart s i = places.starts_line s i
holds_at LineEnd s i = places.ends_line s i
holds_at WordEdge s i = is_boundary s i
holds_at NoWordEdge s i = not (is_boundary s i)

-- BackreferenceMatcher (22.2.2.9.2)

abbrev pub same_char : Option ℕ → Option ℕ → Bool
same_char None None = true
same_char None (Some d) = false
same_char (Some c) None = false
same_char (Some c) (Some d) = nat_eq c d

-- the n characters from i are those from j
abbrev pub same_chars : ℕ → Chars → ℕ → ℕ → Bool
same_chars zero s i j = true
same_chars (suc n) s i j = same_char (slice_get s i) (slice_get s j) && same_chars n s (i + 1) (j + 1)

abbrev pub after_taken : Span → Bool → Chars → ℕ → Option ℕ
after_taken p true s i =
    let n = p.stop - p.start in only_if (nat_le (i + n) (length s) && same_chars n s p.start i) (i + n)
after_taken p false s i =
    let n = p.stop - p.start in only_if (nat_le n i && same_chars n s p.start (i - n)) (i - n)

-- what was not captured is the empty text
abbrev pub after_reference : Option Span → Bool → Chars → ℕ → Option ℕ
after_reference None ahead s i = Some i
after_reference (Some p) ahead s i = after_taken p ahead s i

-- a group (22.2.2.7, Atom)

abbrev pub span : Bool → ℕ → ℕ → Span
span true i j = record { start = i; stop = j }
span false i j = record { start = j; stop = i }

abbrev pub closed : ℕ → Bool → ℕ → State → State
closed k ahead i y = record { place = y.place; captures = slice_set y.captures k (Some (span ahead i y.place)) }

-- lookaround: of a positive one the first result's captures stay, of a negative one none

abbrev pub with_first : State → List State → List State
with_first x [] = []
with_first x (y ∷ ys) = record { place = x.place; captures = y.captures } ∷ []

abbrev pub where_none : State → List State → List State
where_none x [] = x ∷ []
where_none x (y ∷ ys) = []

abbrev pub around_results : Look → State → List State → List State
around_results look x found = if look.wanted then with_first x found else where_none x found

-- RepeatMatcher (22.2.2.3.1)

-- the n captures from k on are none
abbrev pub cleared : ℕ → ℕ → Captures → Captures
cleared zero k cs = cs
cleared (suc n) k cs = cleared n (k + 1) (slice_set cs k None)

abbrev pub fresh : Turns → State → State
fresh t x = record { place = x.place; captures = cleared t.group_count t.groups_before x.captures }

abbrev pub is_spent : Option ℕ → Bool
is_spent None = false
is_spent (Some n) = nat_eq n 0

abbrev pub fewer : Turns → Turns
fewer t = record t { min = t.min - 1; max = option_map (λ n. n - 1) t.max }

-- once more or not at all: at least so often, or in the order wanted
abbrev pub ordered : Turns → List State → State → List State
ordered t more x = if nat_eq t.min 0 then (if t.greedy then more ++ x ∷ [] else x ∷ more) else more

-- a turn that need not be and takes nothing is none
abbrev pub is_idle : Turns → ℕ → State → Bool
is_idle t i y = nat_eq t.min 0 && nat_eq y.place i

-- at most so many turns. From as many on as the least number and the subject's length together, a further one changes nothing, since it
-- would have to take a character
abbrev pub repeated : (State → List State) → ℕ → Turns → State → List State
repeated body zero t x = x ∷ []
repeated body (suc left) t x =
    if is_spent t.max then x ∷ []
    else ordered t (flat_map (λ y. if is_idle t x.place y then [] else repeated body left (fewer t) y) (body (fresh t x))) x

-- one after the other, or back the other first
abbrev pub pair_results : (State → List State) → (State → List State) → Bool → State → List State
pair_results one other true x = flat_map other (one x)
pair_results one other false x = flat_map one (other x)

-- CompileSubpattern (22.2.2.3): the results of a node from a state, ahead or back
abbrev pub results : Node → Bool → Chars → State → List State
results Nothing ahead s x = x ∷ []
results (OneOf spans) ahead s x = then_at x.captures (after_char spans ahead s x.place)
results (At edge) ahead s x = then_at x.captures (only_if (holds_at edge s x.place) x.place)
results (Reference k) ahead s x = then_at x.captures (after_reference (slice_index_or x.captures k None) ahead s x.place)
results (Group k a) ahead s x = map (closed k ahead x.place) (results a ahead s x)
results (Around look a) ahead s x = around_results look x (results a look.ahead s x)
results (Times t a) ahead s x = repeated (results a ahead s) (t.min + length s) t x
results (Pair a b) ahead s x = pair_results (results a ahead s) (results b ahead s) ahead x
results (Choice a b) ahead s x = results a ahead s x ++ results b ahead s x

-- RegExpBuiltinExec (22.2.7.2): a match from some index on

abbrev pub is_some_in : List State → Bool
is_some_in [] = false
is_some_in (x ∷ xs) = true

abbrev pub nothing_captured : ℕ → ℕ → State
nothing_captured groups i = record { place = i; captures = replicate groups None }

abbrev pub matches_at : Node → ℕ → Chars → ℕ → Bool
matches_at a groups s i = is_some_in (results a true s (nothing_captured groups i))

abbrev pub found_from : Node → ℕ → Chars → ℕ → ℕ → Bool
found_from a groups s zero i = false
found_from a groups s (suc n) i = matches_at a groups s i || found_from a groups s n (i + 1)

abbrev pub found : Node → ℕ → Chars → Bool
found a groups s = found_from a groups s (length s + 1) 0
