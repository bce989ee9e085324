use Rattle.std.proofs.Common.{map}
use Rattle.schema_node_table.specs.ClosedNumbers.{edges_in}
use Rattle.schema_node_table.specs.NodeViews.{node_of}
use Rattle.schema_node_table.proofs.ClosedNumbers.{shared_reaches_none}
use Rattle.schema_node_table.proofs.node.Nodes.is_shared.Goals as goal

pub returns : goal.returns
returns g c =
    let i = c.self.inside in
    record { closed = λ is. rw (← c.self.view_is) (shared_reaches_none (edges_in (map node_of i.nodes.items)) i.weights.items c.as_slice.result.now c.args.node.0 c.weight_of.result c.as_slice.ensures.value c.weight_of.ensures.weight is c.self.invariant.closed) }
