-- Worked rows, by computation: what the greatest solutions of small schemas accept if a chain of
-- questions returns, so that the plain meaning says nothing.
use Rattle.std.specs.Prelude.{[], codes, true, ◌≡◌}
use Rattle.serde_json.specs.Data.{Data, array, item, no_items, number, unsigned}
use Rattle.theory_definitions.specs.Matching.{Completion}
use Rattle.theory_meaning.specs.Returns.{returns}
use Rattle.theory_meaning.specs.Rows.{string_schema}
use Rattle.theory_meaning.specs.RowsWorked.{worked_parts, one_member, ref_to, root_of, text, two_members}
use Rattle.theory_fixed_points.specs.Solutions.{AcceptsEach, AcceptsGreatest}

-- The greatest solution of each completion accepts the instance.
abbrev pub IsAccepted : Data → Data → Type 0
IsAccepted schema instance = AcceptsEach (worked_parts [] schema) (root_of [] schema) instance

-- The greatest solution of no completion accepts the instance.
abbrev pub IsRefused : Data → Data → Type 0
IsRefused schema instance = (c : Completion) → ¬ (AcceptsGreatest (worked_parts [] schema) (root_of [] schema) instance c (root_of [] schema) [])

-- A chain of questions comes twice to the same target at the same place.
abbrev pub ComesBack : Data → Data → Type 0
ComesBack schema instance = returns (worked_parts [] schema) instance 9 [] (record { key = root_of [] schema; path = []; place = [] }) ≡ true

abbrev pub one : Data
one = number (unsigned 1)

-- ---- {"anyOf": [{"$ref": "#"}, {"type": "string"}]}

abbrev pub any_schema : Data
any_schema = one_member (codes "anyOf") (array (item (ref_to (codes "#")) (item string_schema no_items)))

-- A chain of questions returns.
abbrev pub AnyComesBack : Type 0
AnyComesBack = ComesBack any_schema one

-- 1 is accepted: the set of the root and its first subschema, both at the root place, stands by
-- itself.
abbrev pub AnyAcceptsNumber : Type 0
AnyAcceptsNumber = IsAccepted any_schema one

-- ---- {"allOf": [{"$ref": "#"}], "type": "string"}

abbrev pub all_schema : Data
all_schema = two_members (codes "allOf") (array (item (ref_to (codes "#")) no_items)) (codes "type") (text (codes "string"))

-- A chain of questions returns.
abbrev pub AllComesBack : Type 0
AllComesBack = ComesBack all_schema (text (codes "a"))

-- 1 is refused.
abbrev pub AllRefusesNumber : Type 0
AllRefusesNumber = IsRefused all_schema one

-- "a" is accepted.
abbrev pub AllAcceptsText : Type 0
AllAcceptsText = IsAccepted all_schema (text (codes "a"))
