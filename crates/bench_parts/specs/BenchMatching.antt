-- A matcher that leaves the patterns of a list unfinished, and takes the others literally.
use Rattle.std.specs.List.{list_any}
use Rattle.std.specs.Prelude.{Bool, List, [], bytes_eq, codes, false, if◌then◌else◌, true, ◌&&◌, ◌==◌, ◌||◌, ◌∷◌}
use Rattle.theory_definitions.specs.Instance.{Text}
use Rattle.theory_definitions.specs.Matching.{Matcher, finished, limit, unfinished}

abbrev pub begins_with : Text → Text → Bool
begins_with [] xs = true
begins_with (a ∷ p) [] = false
begins_with (a ∷ p) (x ∷ xs) = (a == x) && begins_with p xs

-- whether the second text contains the first
abbrev pub contains_text : Text → Text → Bool
contains_text p [] = begins_with p []
contains_text p (x ∷ xs) = begins_with p (x ∷ xs) || contains_text p xs

abbrev pub unfinished_text : Text
unfinished_text = codes "Error executing regex: Max limit for backtracking count exceeded"

abbrev pub bench_matcher : List Text → Matcher
bench_matcher ps = record {
  is_match = λ p s. if list_any (bytes_eq p) ps then unfinished (limit unfinished_text) else finished (contains_text p s);
  is_ecma = λ p. true;
}

-- whether it leaves no pattern unfinished
abbrev pub leaves_none : List Text → Bool
leaves_none [] = true
leaves_none (p ∷ ps) = false
