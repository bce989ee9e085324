-- Worked rows, by computation: what the greatest solutions of small schemas accept if chains of
-- references return.
use Rattle.std.specs.Prelude.{List, [], codes, ◌∷◌}
use Rattle.serde_json.specs.Data.{Data, array, item, no_items, number, unsigned}
use Rattle.theory_definitions.specs.Instance.{Text}
use Rattle.theory_meaning.specs.Rows.{pattern, pattern_schema}
use Rattle.theory_meaning.specs.RowsWorked.{worked_parts, one_member, ref_to, root_of, text, two_members}
use Rattle.theory_fixed_points.specs.Solutions.{AcceptsEach}

-- The greatest solution of every completion accepts the instance, if matches of these patterns stay
-- unfinished.
abbrev pub IsAccepted : List Text → Data → Data → Type 0
IsAccepted unfinished_ones schema instance = AcceptsEach (worked_parts unfinished_ones schema) (root_of unfinished_ones schema) instance

-- The instance 1.
abbrev pub one : Data
one = number (unsigned 1)

-- ---- {"$defs": {"a": {"allOf": [{"$ref": "#/$defs/b"}]}, "b": {"allOf": [{"$ref": "#/$defs/a"}], "type": "string"}}, "$ref": "#/$defs/a"}

-- The list of one schema, for `allOf`.
abbrev pub all_of_one : Data → Data
all_of_one d = array (item d no_items)

-- The schema above.
abbrev pub two_schema : Data
two_schema = two_members
    (codes "$defs") (two_members (codes "a") (one_member (codes "allOf") (all_of_one (ref_to (codes "#/$defs/b"))))
    (codes "b") (two_members (codes "allOf") (all_of_one (ref_to (codes "#/$defs/a"))) (codes "type") (text (codes "string"))))
    (codes "$ref") (text (codes "#/$defs/a"))

-- 1 is refused.
abbrev pub TwoRefuseNumber : Type 0
TwoRefuseNumber = ¬ (IsAccepted [] two_schema one)

-- "a" is accepted.
abbrev pub TwoAcceptText : Type 0
TwoAcceptText = IsAccepted [] two_schema (text (codes "a"))

-- ---- {"anyOf": [{"$ref": "#"}, {"pattern": P}]} and the same with "allOf", P unfinished

-- The schema above, for `anyOf` or `allOf`.
abbrev pub root_and_match : Text → Data
root_and_match name = one_member name (array (item (ref_to (codes "#")) (item pattern_schema no_items)))

-- The largest set of each completion contains the root.
abbrev pub AnyOrMatchAccepts : Type 0
AnyOrMatchAccepts = IsAccepted (pattern ∷ []) (root_and_match (codes "anyOf")) (text (codes "abc"))

-- Not every completion accepts: if a completion says no to the match, its largest set does not
-- contain the root.
abbrev pub AllAndMatchRefuses : Type 0
AllAndMatchRefuses = ¬ (IsAccepted (pattern ∷ []) (root_and_match (codes "allOf")) (text (codes "abc")))
