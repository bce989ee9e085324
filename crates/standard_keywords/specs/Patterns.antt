-- Patterns of a schema that cannot be read as regular expressions. The value of `pattern`, and each
-- name under `patternProperties`, should be a regular expression of ECMA-262.
-- (Validation 2020-12, 4.3 and 6.3.3; Core 2020-12, 10.3.2.2)
use Rattle.std.specs.Prelude.{Bool, List, None, Option, Some, [], bytes_eq, codes, false, if◌then◌else◌, option_map, true, ◌++◌}
use Rattle.serde_json.specs.Data.{Data, Members}
use Rattle.serde_json.specs.Find.{as_object, as_str}
use Rattle.theory_definitions.specs.Instance.{Text, a_name}
use Rattle.theory_definitions.specs.Meaning.{subject_text}
use Rattle.schema_traits.specs.KeywordViews.{option_list}
use Rattle.keyword_makers.specs.Members.{names_of}
use Rattle.pattern_matcher.specs.PatternMatching.{fault_text, first_unreadable}
use Rattle.standard_keywords.specs.declared.patterns.UnreadablePatterns.{UnreadablePatterns}
use Rattle.standard_keywords.specs.declared.patterns.UnreadablePatterns.TheVariants.{LeftToTheMatcher, Refused}

abbrev pub names_in : Option Members → List Text
names_in None = []
names_in (Some ms) = names_of ms

-- the patterns that a member of a schema holds, given its name and value
abbrev pub patterns_in : Text → Data → List Text
patterns_in name d =
    if bytes_eq name (codes "pattern") then option_list (as_str d)
    else (if bytes_eq name (codes "patternProperties") then names_in (as_object d) else [])

abbrev pub with_fault : Text → Option Text → Text
with_fault t None = t
with_fault t (Some fault) = t ++ codes ": " ++ fault

-- the text of the refusal of a pattern; it shows the pattern as a JSON string, and says what is
-- wrong with it and at which character
abbrev pub unreadable_text : Text → Text
unreadable_text p = with_fault (subject_text (a_name p) ++ codes " is not a \"regex\"") (fault_text p)

-- the refusal of the first pattern of a list that cannot be read
abbrev pub refusal_among : List Text → Option Text
refusal_among ps = option_map unreadable_text (first_unreadable ps)

abbrev pub refusal_in : Text → Data → Option Text
refusal_in name d = refusal_among (patterns_in name d)

abbrev pub refusal_at : Text → Option Data → Option Text
refusal_at name None = None
refusal_at name (Some d) = refusal_in name d

-- a table that leaves such patterns to the matcher refuses none; a member whose name the table owns
-- holds no pattern
abbrev pub pattern_refusal : UnreadablePatterns → Bool → Text → Option Data → Option Text
pattern_refusal LeftToTheMatcher own name o = None
pattern_refusal Refused true name o = None
pattern_refusal Refused false name o = refusal_at name o
