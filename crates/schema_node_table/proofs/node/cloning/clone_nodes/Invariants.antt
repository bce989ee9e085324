use Rattle.std.proofs.Common.{◌≡◌, ◌++◌, map, drop}
use Rattle.schema_node_table.specs.Cloned.{shaped_nodes}
use Rattle.schema_node_table.specs.NodeViews.{node_of}
use Rattle.schema_node_table.proofs.node.cloning.clone_nodes.Given as goal

abbrev pub invariant-loop-node : goal.invariant-loop-node
invariant-loop-node g l =
    let shape = g.K.Validate.shape in
    shaped_nodes shape (map node_of l.copies.items) ++ shaped_nodes shape (map node_of (drop l.node-index l.nodes)) ≡ shaped_nodes shape (map node_of l.nodes)
