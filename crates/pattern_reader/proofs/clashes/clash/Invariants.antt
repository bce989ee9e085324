use Rattle.std.proofs.Common.{◌≡◌, length}
use Rattle.pattern_trees.specs.Nodes.{node_of}
use Rattle.pattern_reader.specs.Groups.{names_of}
use Rattle.pattern_reader.specs.Reading.{clash}
use Rattle.pattern_reader.proofs.clashes.clash.Given as goal

abbrev pub invariant-loop-rest : goal.invariant-loop-rest
invariant-loop-rest l = clash l.k (node_of l.tree) (names_of l.rest) ≡ clash 0 (node_of l.tree) (names_of l.names)

abbrev pub decreases-loop-rest : goal.decreases-loop-rest
decreases-loop-rest l = length l.rest
