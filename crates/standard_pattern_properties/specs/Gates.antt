-- Keywords with gates. A gate is a question that is asked at a member of an instance only if one of
-- its patterns matches the member's name, or only if none of them does. Such a keyword passes on
-- the answers to its questions. Or it asks none of them, and reports one error of its own that
-- shows the names of the members at which they would be asked. (Core 2020-12, 10.3.2.2 and
-- 10.3.2.3)
use Rattle.std.specs.List.{filter, list_any}
use Rattle.std.specs.Prelude.{Bool, List, [], false, map, not, true, ℕ, ◌++◌, ◌∷◌}
use Rattle.theory_definitions.specs.Instance.{Subject, Text, to_member}
use Rattle.theory_definitions.specs.Keywords.{Question, down}
use Rattle.theory_definitions.specs.Matching.{Matching, Pair}
use Rattle.schema_reports.specs.ReportViews.{spoken}
use Rattle.keyword_authoring.specs.Members.{has_member}
use Rattle.keyword_authoring.specs.Ways as ways
use Rattle.keyword_authoring.specs.Ways.{Way, is_matched}
use Rattle.standard_pattern_properties.specs.declared.gates.Condition.{Condition}
use Rattle.standard_pattern_properties.specs.declared.gates.Condition.TheVariants.{NoneMatches, OneMatches}

-- a gate: a child with a condition and patterns. A gate without patterns that requires no match is
-- always open.
pub record Gate : Type 0 where
  pub condition : Condition
  pub patterns : List Text
  pub child : ℕ

-- a gate's question at the member with this name, and the pairs that say whether it is asked: each
-- pattern with the name
pub record Gated : Type 0 where
  pub condition : Condition
  pub pairs : List Pair
  pub question : Question
  pub name : Text

-- what a keyword does with its open questions: it asks them and passes on their answers; or, if
-- there are any, it reports an error with this name, whose text depends on the members' names
pub data Form : Type 0 where
  passes : Form
  tells : Text → (List Text → Text) → Form

-- ---- which questions are open

-- the question that evaluates a child at a member
abbrev pub at_member : ℕ → Text → Question
at_member i k = record { child = i; below = down (to_member k) }

abbrev pub pair_with : Text → Text → Pair
pair_with k p = record { pattern = p; subject = k }

abbrev pub gated_at : Text → Gate → Gated
gated_at k g = record { condition = g.condition; pairs = map (pair_with k) g.patterns; question = at_member g.child k; name = k }

-- the questions of the gates at a member, in order: none if the instance has no such member
abbrev pub gated_here : Bool → List Gate → Text → List Gated
gated_here true gates k = map (gated_at k) gates
gated_here false gates k = []

-- the questions of the gates at each member, in order
abbrev pub gated : List Gate → Subject → List Text → List Gated
gated gates s [] = []
gated gates s (k ∷ ks) = gated_here (has_member k s) gates k ++ gated gates s ks

-- whether a gate is open, given whether one of its patterns matches
abbrev pub opens : Condition → Bool → Bool
opens OneMatches matched = matched
opens NoneMatches matched = not matched

abbrev pub is_open : Matching → Gated → Bool
is_open matching g = opens g.condition (list_any (is_matched matching) g.pairs)

abbrev pub open_ones : Matching → List Gated → List Gated
open_ones matching gs = filter (is_open matching) gs

-- ---- the meaning of a keyword with gates

abbrev pub question_of : Gated → Question
question_of g = g.question

abbrev pub name_of : Gated → Text
name_of g = g.name

-- one error if there are names
abbrev pub told : (List Text → Text) → List Text → List Text
told text [] = []
told text (k ∷ ks) = text (k ∷ ks) ∷ []

-- the way of a keyword whose open questions are these
abbrev pub way_of : Bool → Form → List Gated → Way
way_of texts passes gs = ways.passes_on (map question_of gs)
way_of texts (tells called text) gs = ways.tells called (map (spoken texts) (told text (map name_of gs)))

abbrev pub way_by : Bool → Form → Matching → List Gated → Way
way_by texts form matching gs = way_of texts form (open_ones matching gs)

-- the questions that the keyword may ask, whatever matches
abbrev pub asked_of : Form → List Gated → List Question
asked_of passes gs = map question_of gs
asked_of (tells called text) gs = []
