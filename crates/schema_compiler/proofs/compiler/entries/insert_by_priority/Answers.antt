use Rattle.std.proofs.Common.{◌∙◌, refl}
use Rattle.schema_node_table.specs.NodeViews.{entry_of}
use Rattle.schema_compiler.proofs.Placing.{mapped_insert}
use Rattle.schema_compiler.proofs.compiler.entries.insert_by_priority.Goals as goal

pub returns : goal.returns
returns g c =
    let es = c.args.entries.now.items in
    record { placed = rw c.in_ok-insert.ensures.items (mapped_insert entry_of es c.place_for-place.result c.args.entry ∙ (rw c.as_slice.ensures.value at (c.place_for-place.ensures.place (entry_of c.args.entry) refl))) }
