-- A matcher says whether a text matches a pattern, or leaves the match unfinished. A completion
-- assigns an outcome to every unfinished match; assumptions assign one to some of them. A
-- completion is a value: an outcome for all unfinished pairs, and a finite list of exceptions. So
-- "for every completion" is an ordinary quantifier. (Validation 2020-12, 4.3, regular expressions)
use Rattle.std.specs.List.{list_any}
use Rattle.std.specs.Prelude.{Bool, List, None, Option, Some, [], bytes_eq, false, filter_map, find, if◌then◌else◌, not, option_map, true, ◌&&◌, ◌≡◌}
use Rattle.theory_definitions.specs.Instance.{Step, Text}
use Rattle.theory_definitions.specs.Reports.{spans_nothing}

-- Why a match is unfinished: it reached a limit, which the text describes, or the engine failed.
pub data Reason : Type 0 where
  limit : Text → Reason
  engine : Reason

-- The result of a match: finished with an outcome, or unfinished for a reason.
pub data Match : Type 0 where
  finished : Bool → Match
  unfinished : Reason → Match

-- A matcher: the result of each pattern and text, and whether a text is an ECMA-262 pattern.
pub record Matcher : Type 0 where
  pub is_match : Text → Text → Match
  pub is_ecma : Text → Bool

-- A pattern and the text that is matched against it.
pub record Pair : Type 0 where
  pub pattern : Text
  pub subject : Text

-- The same pattern and the same text.
abbrev pub same_pair : Pair → Pair → Bool
same_pair a b = bytes_eq a.pattern b.pattern && bytes_eq a.subject b.subject

-- An outcome for every unfinished pair: `otherwise`, or the opposite for the pairs in the list.
pub record Completion : Type 0 where
  pub otherwise : Bool
  pub except : List Pair

-- The outcome that a completion assigns to a pair.
abbrev pub completed : Completion → Pair → Bool
completed c a = if list_any (same_pair a) c.except then not c.otherwise else c.otherwise

-- The completion in which every unfinished match counts as matching.
abbrev pub all_match : Completion
all_match = record { otherwise = true; except = [] }

-- What a keyword may ask besides its questions: whether a text matches a pattern, whether a text is
-- an ECMA-262 pattern, and whether the other keywords of its schema span a member or an item.
pub record Matching : Type 0 where
  pub matches : Text → Text → Bool
  pub is_ecma : Text → Bool
  pub spanned : Step → Bool

-- The outcome of a match, which is `b` if the match is unfinished.
abbrev pub settled : Bool → Match → Bool
settled b (finished a) = a
settled b (unfinished r) = b

-- The matches of a matcher under a completion, with nothing spanned by others.
abbrev pub matching : Matcher → Completion → Matching
matching m c = record { matches = λ p s. settled (completed c (record { pattern = p; subject = s })) (m.is_match p s); is_ecma = m.is_ecma; spanned = spans_nothing }

-- The same matches, if the others span these steps.
abbrev pub beside : (Step → Bool) → Matching → Matching
beside spanned matching = record matching { spanned = spanned }

-- The outcome that is assumed for an unfinished pair.
pub record Assumed : Type 0 where
  pub pair : Pair
  pub outcome : Bool

-- A list of assumed outcomes; for a pair that occurs twice the first one counts.
abbrev pub Assumptions : Type 0
Assumptions = List Assumed

-- The outcome that is assumed for a pair, if there is one.
abbrev pub assumed : Assumptions → Pair → Option Bool
assumed as' a = option_map (λ x. x.outcome) (find (λ x. same_pair a x.pair) as')

-- The completion of a run: the assumed outcomes, and no for every other unfinished match.
abbrev pub completion_of : Assumptions → Completion
completion_of as' = record { otherwise = false; except = filter_map (λ x. if x.outcome then Some x.pair else None) as' }

-- The completion assigns the assumed outcome to every assumed pair.
abbrev pub Extends : Completion → Assumptions → Type 0
Extends c as' = (a : Pair) (b : Bool) → assumed as' a ≡ Some b → completed c a ≡ b
