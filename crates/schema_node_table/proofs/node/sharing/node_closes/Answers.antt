use Rattle.std.proofs.Common.{◌∙◌, Some, ap, sym}
use Rattle.std.specs.List.{list_all}
use Rattle.schema_node_table.specs.ClosedNumbers.{form_closes, has_weight}
use Rattle.schema_node_table.specs.NodeViews.{form_of}
use Rattle.schema_node_table.specs.declared.node.Entry.{Entry}
use Rattle.schema_node_table.specs.declared.node.NodeForm.TheVariants.{Keywords}
use Rattle.schema_node_table.proofs.ClosedNumbers.{entries_close, form_closes_in}
use Rattle.schema_node_table.proofs.node.sharing.node_closes.Goals as goal

pub returns-in-Keywords : goal.returns-in-Keywords
returns-in-Keywords g c =
    let closed = has_weight c.args.weights.now in
    record {
      closes = c.entries_close.ensures.closes ∙ ap (list_all (λ (e : Entry g.row.K.Denot). form_closes closed (form_of e.form))) c.as_slice.ensures.value ∙ entries_close closed c.in-Keywords.entries.items
          ∙ sym (form_closes_in closed c.args.node.now (Keywords c.in-Keywords.entries) (c.in-Some.is ∙ ap Some c.in-Keywords.is));
    }
