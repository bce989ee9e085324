-- What the code read, as the definition has it.
use Rattle.pattern_trees.specs.Nodes.{node_of}
use Rattle.pattern_reader.specs.Reading.{Reading}
use Rattle.pattern_reader.specs.declared.reader.Pattern.{Pattern}

abbrev pub reading_of : Pattern → Reading
reading_of p = record { node = node_of p.tree; groups = p.groups }
