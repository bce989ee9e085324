use Rattle.std.proofs.Common.{◌∙◌, Some, ap, sym}
use Rattle.std.specs.List.{list_all}
use Rattle.meta_checker.specs.Shown.{form_is_whole}
use Rattle.schema_node_table.specs.NodeViews.{form_of}
use Rattle.schema_node_table.specs.declared.node.Entry.{Entry}
use Rattle.meta_checker.proofs.Tables.{entries_say, form_in}
use Rattle.schema_node_table.specs.declared.node.NodeForm.TheVariants.{Keywords}
use Rattle.meta_checker.proofs.nodes.node_shows_none.Goals as goal

pub returns-in-Keywords : goal.returns-in-Keywords
returns-in-Keywords g c =
    let says = λ (k : g.row.K.Denot). g.K.Validate.is_whole (g.K.Validate.shape k) in record {
      shows = c.entries_show_none.ensures.shows ∙ ap (list_all (λ (e : Entry g.row.K.Denot). form_is_whole says (form_of e.form))) c.as_slice.ensures.value ∙ entries_say says c.in-Keywords.entries.items ∙ sym (form_in says c.args.node.now (Keywords c.in-Keywords.entries) (c.in-Some.is ∙ ap Some c.in-Keywords.is));
    }
