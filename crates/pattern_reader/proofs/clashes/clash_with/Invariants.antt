use Rattle.std.proofs.Common.{◌≡◌, length}
use Rattle.pattern_trees.specs.Nodes.{node_of}
use Rattle.pattern_reader.specs.Groups.{name_of, names_of}
use Rattle.pattern_reader.specs.Reading.{clash_with}
use Rattle.pattern_reader.proofs.clashes.clash_with.Given as goal

abbrev pub invariant-loop-rest : goal.invariant-loop-rest
invariant-loop-rest l =
    clash_with (name_of l.one) l.k (node_of l.tree) l.j (names_of l.rest) ≡ clash_with (name_of l.one) l.k (node_of l.tree) l.from (names_of l.names)

abbrev pub decreases-loop-rest : goal.decreases-loop-rest
decreases-loop-rest l = length l.rest
