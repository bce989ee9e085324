-- The gates of `patternProperties` and `additionalProperties`. (Core 2020-12, 10.3.2.2 and
-- 10.3.2.3)
use Rattle.std.specs.List.{filter}
use Rattle.std.specs.Prelude.{List, None, Option, Some, [], codes, if◌then◌else◌, map, not, string_bytes, ℕ, ◌++◌, ◌+◌, ◌∷◌}
use Rattle.theory_definitions.specs.Instance.{Subject, Text}
use Rattle.keyword_authoring.specs.Members.{has_member, subject_names}
use Rattle.keyword_authoring.specs.Texts.{is_among}
use Rattle.standard_pattern_properties.specs.Gates as gates
use Rattle.standard_pattern_properties.specs.Gates.{Form, at_member, passes, tells}
use Rattle.standard_pattern_properties.specs.GateMoves as moves
use Rattle.standard_pattern_properties.specs.declared.gates.Condition.TheVariants.{NoneMatches, OneMatches}
use Rattle.standard_pattern_properties.specs.declared.gates.Gate.{Gate}
use Rattle.standard_pattern_properties.specs.declared.gates.Move.{Move}
use Rattle.standard_pattern_properties.specs.declared.gates.Move.TheVariants as move
use Rattle.standard_pattern_properties.specs.declared.gates.GateRun.{GateRun}
use Rattle.standard_pattern_properties.specs.declared.keyword.GatedKeyword.{GatedKeyword}
use Rattle.standard_pattern_properties.specs.declared.keyword.GatedKeyword.TheVariants.{AdditionalProperties, NoAdditionalProperties, PatternProperties}

-- ---- the meaning of the code's gates and moves

abbrev pub gate_of : Gate → gates.Gate
gate_of g = record { condition = g.condition; patterns = map string_bytes g.patterns.now; child = g.child }

-- the move, given the members that are left and the names that the error shows
abbrev pub move_of : Move → List Text → List Text → moves.Move
move_of move.Halt names left = moves.halts left
move_of (move.Test j l p k) names left = moves.tests names left j l p.now k.now
move_of (move.Ask j child k) names left = moves.asks names left j (at_member child k.now)

-- the move, if one is made, and else what follows
abbrev pub moved_by : Option Move → GateRun → (List Text → moves.Move) → moves.Move
moved_by None run next = next run.left
moved_by (Some mv) run next = move_of mv run.names run.left

-- the current member's name, if the instance has that member
abbrev pub name_here : Subject → List Text → Option Text
name_here s [] = None
name_here s (k ∷ ks) = if has_member k s then Some k else None

-- ---- the gates of a keyword

-- the gates of the patterns, whose children are numbered from i on: a gate is open if its pattern
-- matches
abbrev pub gates_from : ℕ → List Text → List gates.Gate
gates_from i [] = []
gates_from i (p ∷ ps) = record { condition = OneMatches; patterns = p ∷ []; child = i } ∷ gates_from (i + 1) ps

-- the gate of the only child, which is open if no pattern matches
abbrev pub other_gate : List Text → gates.Gate
other_gate patterns = record { condition = NoneMatches; patterns = patterns; child = 0 }

abbrev pub gates_of : GatedKeyword → List gates.Gate
gates_of (PatternProperties patterns) = gates_from 0 patterns
gates_of (AdditionalProperties beside) = other_gate beside.patterns ∷ []
gates_of (NoAdditionalProperties beside) = other_gate beside.patterns ∷ []

-- ---- the members that a keyword looks at

-- the names that are not listed, in order
abbrev pub unlisted : List Text → List Text → List Text
unlisted listed names = filter (λ k. not (is_among listed k)) names

abbrev pub names_of : GatedKeyword → Subject → List Text
names_of (PatternProperties patterns) s = subject_names s
names_of (AdditionalProperties beside) s = unlisted beside.listed (subject_names s)
names_of (NoAdditionalProperties beside) s = unlisted beside.listed (subject_names s)

-- ---- the keyword's own error

-- each name in quotes, with `before` in front of the first one and commas between them
abbrev pub in_quotes : Text → List Text → Text
in_quotes before [] = []
in_quotes before (k ∷ ks) = before ++ codes "'" ++ k ++ codes "'" ++ in_quotes (codes ", ") ks

abbrev pub were_unexpected : List Text → Text
were_unexpected (k ∷ []) = codes " was unexpected)"
were_unexpected ks = codes " were unexpected)"

abbrev pub unexpected_text : List Text → Text
unexpected_text ks = codes "Additional properties are not allowed (" ++ in_quotes [] ks ++ were_unexpected ks

abbrev pub form_of : GatedKeyword → Form
form_of (PatternProperties patterns) = passes
form_of (AdditionalProperties beside) = passes
form_of (NoAdditionalProperties beside) = tells (codes "additionalProperties") unexpected_text
