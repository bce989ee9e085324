-- The meaning of a text as a pattern, and whether it has a match: a text is read by the grammars of
-- ECMA-262 (22.2.1 and B.1.2), and matches as the standard defines it (22.2.2). Nothing here depends
-- on a table of patterns. (ECMA-262, 2025; Validation 2020-12, 4.3)
use Rattle.std.specs.Prelude.{Bool, List, None, Option, Some, chars, codes, false, find, if◌then◌else◌, is_none, is_some, nat_le, not, option_map, true, ℕ, ◌&&◌, ◌≡◌, bytes_eq}
use Rattle.std.specs.List.{list_any}
use Rattle.std.specs.Result.{result_err, result_ok}
use Rattle.pattern_trees.specs.Matching.{Chars, found}
use Rattle.pattern_trees.specs.Nodes.{Node, Nothing, OneOf, At, Reference, Group, Around, Times, Pair, Choice}
use Rattle.pattern_backtracking.specs.Counting.{decided}
use Rattle.pattern_reader.specs.Errors.{error_text}
use Rattle.pattern_reader.specs.Reading.{Reading, located, read}
use Rattle.theory_definitions.specs.Instance.{Text}
use Rattle.theory_definitions.specs.Matching.{Match, Matcher, engine, finished, limit, unfinished}
use Rattle.pattern_matcher.specs.declared.treatment.Treatment.{Treatment}
use Rattle.pattern_matcher.specs.declared.treatment.Unreadable.{Unreadable}
use Rattle.pattern_matcher.specs.declared.treatment.Unreadable.TheVariants.{LeftUnfinished, MatchesNothing}

-- what a text is read as, if it is a pattern
unfoldable pub reading_of : Text → Option Reading
reading_of p = result_ok (read (chars p))

-- what is wrong with a text that cannot be read, and at which character
unfoldable pub fault_text : Text → Option Text
fault_text p = option_map error_text (result_err (located (chars p) (read (chars p))))

abbrev pub is_readable : Text → Bool
is_readable p = is_some (reading_of p)

abbrev pub is_unreadable : Text → Bool
is_unreadable p = not (is_readable p)

-- the first number of a quantifier is not greater than the second one; the reader gives no other
abbrev pub is_in_order : ℕ → Option ℕ → Bool
is_in_order least None = true
is_in_order least (Some most) = nat_le least most

-- a pattern without back references
abbrev pub is_plain : Node → Bool
is_plain Nothing = true
is_plain (OneOf spans) = true
is_plain (At edge) = true
is_plain (Reference k) = false
is_plain (Group k a) = is_plain a
is_plain (Around look a) = is_plain a
is_plain (Times t a) = is_in_order t.min t.max && is_plain a
is_plain (Pair a b) = is_plain a && is_plain b
is_plain (Choice a b) = is_plain a && is_plain b

abbrev pub plain_in : Option Reading → Bool
plain_in None = true
plain_in (Some r) = is_plain r.node

-- a text is a pattern with a back reference
abbrev pub refers : Text → Bool
refers p = not (plain_in (reading_of p))

-- whether a pattern has a match anywhere in a subject
abbrev pub is_found : Reading → Chars → Bool
is_found r s = found r.node r.groups s

-- a search that was left at its limit leaves the match unfinished
abbrev pub decided_match : Option Bool → Match
decided_match (Some b) = finished b
decided_match None = unfinished (limit (codes "Error executing regex: Max limit for backtracking count exceeded"))

-- a match of a pattern with a back reference: it may take so many steps, or any number of them
abbrev pub referring_match : Option ℕ → Reading → Chars → Match
referring_match None r s = finished (is_found r s)
referring_match (Some steps) r s = decided_match (decided r.node r.groups s steps)

-- a match of a pattern without one is always finished
abbrev pub readable_match : Option ℕ → Reading → Chars → Match
readable_match steps r s = if is_plain r.node then finished (is_found r s) else referring_match steps r s

-- a match of an unreadable text is left unfinished, or the text matches nothing
abbrev pub unreadable_match : Unreadable → Match
unreadable_match LeftUnfinished = unfinished engine
unreadable_match MatchesNothing = finished false

abbrev pub reading_match : Treatment → Option Reading → Chars → Match
reading_match t None s = unreadable_match t.unreadable
reading_match t (Some r) s = readable_match t.limit r s

abbrev pub match_by : Treatment → Text → Text → Match
match_by t p s = reading_match t (reading_of p) (chars s)

-- the matcher that the code implements
abbrev pub pattern_matcher : Treatment → Matcher
pattern_matcher t = record { is_match = match_by t; is_ecma = is_readable }

-- the matcher finishes every match if unreadable texts match nothing and there is no limit
abbrev pub finishes_each : Treatment → Bool
finishes_each t = finishes t.unreadable t.limit
  where
    finishes : Unreadable → Option ℕ → Bool
    finishes LeftUnfinished steps = false
    finishes MatchesNothing steps = is_none steps

-- the first text that cannot be read
abbrev pub first_unreadable : List Text → Option Text
first_unreadable ts = find is_unreadable ts

-- matches with a back reference take at most a million steps if the list has a pattern with one
abbrev pub limit_for : List Text → Option ℕ
limit_for ts = if list_any refers ts then Some 1000000 else None

-- matches of unreadable texts are left unfinished if the list has one
abbrev pub careful : List Text → Treatment
careful ts = record {
  unreadable = if list_any is_unreadable ts then LeftUnfinished else MatchesNothing;
  limit = limit_for ts;
}

-- Unreadable texts match nothing: this is for a table that refuses them, so none is ever matched.
abbrev pub readable_only : List Text → Treatment
readable_only ts = record { unreadable = MatchesNothing; limit = limit_for ts }

-- each match of an unreadable text of the list is left unfinished
abbrev pub TellsUnreadable : List Text → Matcher → Type 0
TellsUnreadable ts m = (p s : Text) → list_any (bytes_eq p) ts ≡ true → is_readable p ≡ false → m.is_match p s ≡ unfinished engine
