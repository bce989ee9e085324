use Rattle.std.proofs.Common.{◌∙◌, Some, ap, sym}
use Rattle.std.specs.List.{list_all}
use Rattle.schema_solver.specs.Saying.{form_says}
use Rattle.schema_node_table.specs.NodeViews.{form_of}
use Rattle.schema_node_table.specs.declared.node.Entry.{Entry}
use Rattle.schema_solver.proofs.Says.{entries_say, form_in}
use Rattle.schema_node_table.specs.declared.node.NodeForm.TheVariants.{Keywords}
use Rattle.schema_solver.proofs.monotone.node_says.Goals as goal

pub returns-in-Keywords : goal.returns-in-Keywords
returns-in-Keywords g c =
    let says = λ (k : g.row.K.Denot). g.K.Validate.says_monotone (g.K.Validate.shape k) in record {
      says = c.entries_say.ensures.says ∙ ap (list_all (λ (e : Entry g.row.K.Denot). form_says says (form_of e.form))) c.as_slice.ensures.value ∙ entries_say says c.in-Keywords.entries.items ∙ sym (form_in says c.args.node.now (Keywords c.in-Keywords.entries) (c.in-Some.is ∙ ap Some c.in-Keywords.is));
    }
