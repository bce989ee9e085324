use Rattle.std.proofs.Common.{refl}
use Rattle.std.proofs.lemmas.List.{map-append}
use Rattle.schema_node_table.proofs.ClosedNumbers.{closed_none}
use Rattle.schema_node_table.proofs.NodeOrders.{ordered_more}
use Rattle.schema_node_table.proofs.node.Nodes.next.Goals as goal

pub invariant_of-self-2 : goal.invariant_of-self-2
invariant_of-self-2 g c = record { ordered = rw (c.in_ok-push.ensures.items, map-append) (ordered_more _ _ _ refl c.self.invariant.ordered); closed = closed_none _ _ c.clear.ensures.items }
