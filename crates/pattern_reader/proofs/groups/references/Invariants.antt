use Rattle.std.proofs.Common.{◌≡◌, length}
use Rattle.pattern_trees.specs.Nodes.{Nothing, node_of}
use Rattle.pattern_reader.specs.Groups.{names_of, references}
use Rattle.pattern_reader.proofs.groups.references.Given as goal

abbrev pub invariant-loop-rest : goal.invariant-loop-rest
invariant-loop-rest l = references l.wanted l.k (node_of l.tree) (names_of l.rest) ≡ references l.wanted 0 Nothing (names_of l.names)

abbrev pub decreases-loop-rest : goal.decreases-loop-rest
decreases-loop-rest l = length l.rest
