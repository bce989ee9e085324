use Rattle.std.proofs.Common.{◌≡◌, ◌++◌, map, option_map, drop}
use Rattle.schema_traits.specs.EdgeViews.{edge_of}
use Rattle.schema_node_table.proofs.node.cloning.clone_children.Given as goal

abbrev pub invariant-loop-child : goal.invariant-loop-child
invariant-loop-child l = map (option_map edge_of) l.copies.items ++ map (option_map edge_of) (drop l.child-index l.children) ≡ map (option_map edge_of) l.children
