use Rattle.schema_node_table.proofs.ClosedNumbers.{closed_same}
use Rattle.schema_node_table.proofs.node.Nodes.share.Goals as goal

pub invariant_of-self : goal.invariant_of-self
invariant_of-self g c = record {
  ordered = c.self.invariant.ordered;
  closed = rw c.self.view_is (closed_same _ _ _ c.keep_shared.ensures.same c.in_ok-weights.ensures.closed);
}
