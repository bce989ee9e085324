use Rattle.std.proofs.Common.{refl}
use Rattle.schema_node_table.specs.NodeViews.{plan_of}
use Rattle.schema_node_table.proofs.NodesAdded.{adds, may_fill}
use Rattle.schema_node_table.proofs.node.Nodes.add.Goals as goal

pub fill-requires : goal.fill-requires
fill-requires g c = record { ready = may_fill _ _ _ _ c.in_ok-node.ensures.number c.in_ok-node.ensures.added refl c.assert_ordered.ensures.ordered.0 (plan_of c.args.form) refl c.assert_ordered.ensures.ordered.1 c.requires.ready }

pub returns : goal.returns
returns g c = record {
  number = c.in_ok-node.ensures.number;
  added = adds _ _ _ _ c.in_ok-node.ensures.number c.in_ok-node.ensures.added refl _ _ _ c.fill.ensures.filled;
  unchanged = tt;
}
