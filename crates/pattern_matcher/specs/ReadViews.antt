-- What the code has read, as the definition of reading has it.
use Rattle.pattern_reader.specs.Outcomes.{reading_of}
use Rattle.pattern_reader.specs.Reading.{Reading}
use Rattle.pattern_reader.specs.declared.reader.Pattern.{Pattern}
use Rattle.pattern_sets.specs.Alike.{AreAlike}
use Rattle.pattern_trees.specs.Nodes.{node_of}
use Rattle.pattern_trees.specs.Trees.{pattern_of}
use Rattle.pattern_trees.specs.declared.tree.Tree.{Tree}
use Rattle.std.specs.Prelude.{None, Option, Some}

abbrev pub reading_seen : Pattern → Reading
reading_seen = reading_of

-- a tree matches as what was read does
abbrev pub IsPrepared : Option Pattern → Tree → Type 0
IsPrepared None t = Unit {0}
IsPrepared (Some p) t = AreAlike (pattern_of (node_of p.tree)) (pattern_of (node_of t))
