use Rattle.std.proofs.Common.{◌∙◌, sym, ap}
use Rattle.std.specs.Rc.{rc_str_bytes}
use Rattle.serde_json.specs.View.{view}
use Rattle.schema_traits.specs.SchemaViews.{schema_step_of}
use Rattle.standard_resolver.specs.OnWay.{leads_to_item, schema_found}
use Rattle.standard_resolver.proofs.OnWay.{leads_to_no_item, leads_to_the_item}
use Rattle.standard_resolver.proofs.on_way.leads_to_item.Goals as goal

pub returns-in-Member : goal.returns-in-Member
returns-in-Member c = record {
  leads = leads_to_no_item (rc_str_bytes c.in-Member.field-0) (view c.args.value.now)
      ∙ ap (λ s. leads_to_item (schema_step_of s) (view c.args.value.now)) (sym c.in-Member.is);
}

pub returns-in-Item : goal.returns-in-Item
returns-in-Item c =
    record {
      leads = c.is_schema_there.ensures.there ∙ ap schema_found c.get.ensures ∙ leads_to_the_item c.in-Item.index (view c.args.value.now)
          ∙ ap (λ s. leads_to_item (schema_step_of s) (view c.args.value.now)) (sym c.in-Item.is);
    }
