use Rattle.std.proofs.Common.{◌≡◌, ◌++◌, map, drop}
use Rattle.schema_node_table.specs.NodeTable.{shaped_part}
use Rattle.schema_node_table.specs.NodeViews.{entry_of}
use Rattle.schema_node_table.proofs.node.cloning.clone_entries.Given as goal

abbrev pub invariant-loop-entry : goal.invariant-loop-entry
invariant-loop-entry g l =
    let shape = g.K.Validate.shape in
    map (shaped_part shape) (map entry_of l.copies.items) ++ map (shaped_part shape) (map entry_of (drop l.entry-index l.entries)) ≡ map (shaped_part shape) (map entry_of l.entries)
