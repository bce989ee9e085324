-- Assertions that stand at a position (22.2.1, Assertion, and 22.2.2.4).
use Rattle.std.specs.Prelude.{Bool, true, false, not, if◌then◌else◌}
use Rattle.pattern_trees.specs.Nodes.{Node, At, Around, Pair, Choice}
use Rattle.pattern_trees.specs.declared.tree.Edge.{Edge}
use Rattle.pattern_trees.specs.declared.tree.Edge.TheVariants.{WordEdge, NoWordEdge}
use Rattle.pattern_characters.specs.Sets.{member_node}
use Rattle.pattern_characters.specs.declared.parts.Flags.{Flags}
use Rattle.pattern_characters.specs.declared.parts.Letter.TheVariants.{Words}
use Rattle.pattern_characters.specs.declared.parts.Member.TheVariants.{Of}

-- a character of \w stands after the position or before it, or none does
abbrev pub side : Flags → Bool → Bool → Node
side f ahead wanted = Around (record { ahead = ahead; wanted = wanted }) (member_node f (Of Words false))

-- \b: a character of \w stands on one side alone; and \B: on both sides or on none
abbrev pub word_edge : Flags → Bool → Node
word_edge f wanted = Choice (Pair (side f false true) (side f true (not wanted))) (Pair (side f false false) (side f true wanted))

-- under the flag i, \b and \B go by the further characters of \w too (22.2.2.9.3, WordCharacters)
abbrev pub edge_node : Flags → Edge → Node
edge_node f WordEdge = if f.ignore_case then word_edge f true else At WordEdge
edge_node f NoWordEdge = if f.ignore_case then word_edge f false else At NoWordEdge
edge_node f edge = At edge
