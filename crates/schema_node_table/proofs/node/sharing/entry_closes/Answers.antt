use Rattle.std.proofs.Common.{◌∙◌, ap, option_map, sym}
use Rattle.std.specs.Prelude.{Option}
use Rattle.std.specs.List.{list_all}
use Rattle.std.proofs.lemmas.List.Folds.{list_all-map}
use Rattle.schema_traits.specs.EdgeViews.{edge_of}
use Rattle.schema_traits.specs.declared.numbers.Edge.{Edge}
use Rattle.schema_node_table.specs.ClosedNumbers.{child_closes, form_closes, has_weight}
use Rattle.schema_node_table.specs.NodeViews.{form_of}
use Rattle.schema_node_table.proofs.node.sharing.entry_closes.Goals as goal

pub returns-in-Keyword : goal.returns-in-Keyword
returns-in-Keyword g c =
    let closes = child_closes (has_weight c.args.weights.now) in
    record {
      closes = c.children_close.ensures.closes ∙ ap (list_all (λ (o : Option Edge). closes (option_map edge_of o))) c.as_slice.ensures.value
          ∙ sym (list_all-map closes (option_map edge_of) c.in-Keyword.children.items)
          ∙ ap (λ form. form_closes (has_weight c.args.weights.now) (form_of form)) (sym c.in-Keyword.is);
    }
