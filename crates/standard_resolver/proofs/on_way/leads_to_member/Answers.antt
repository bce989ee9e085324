use Rattle.std.proofs.Common.{◌∙◌, sym, ap}
use Rattle.std.specs.Rc.{rc_str_bytes}
use Rattle.std.specs.Prelude.{option_map}
use Rattle.serde_json.specs.Find.{get}
use Rattle.serde_json.specs.View.{members_view, view}
use Rattle.schema_traits.specs.SchemaViews.{schema_step_of}
use Rattle.standard_resolver.specs.OnWay.{leads_to_member, schema_found}
use Rattle.standard_subschemas.proofs.Finding.{object_is}
use Rattle.standard_resolver.proofs.OnWay.{leads_to_no_member, leads_to_the_member}
use Rattle.standard_resolver.proofs.on_way.leads_to_member.Goals as goal

pub returns-in-Member : goal.returns-in-Member
returns-in-Member c =
    let value = view c.args.value.now in
    let entries = c.in-Some.members.now.entries in
    let is = object_is value (members_view entries) (sym c.as_object.ensures
    ∙ ap (option_map (λ m. members_view m.now.entries)) c.in-Some.is) in
    record {
      leads = c.is_schema_there.ensures.there ∙ ap schema_found c.get.ensures ∙ ap (λ t. schema_found (get t value)) c.as_str.ensures.value
          ∙ leads_to_the_member (rc_str_bytes c.in-Member.name) value entries is c.assert_ordered.ensures.ordered
          ∙ ap (λ s. leads_to_member (schema_step_of s) value) (sym c.in-Member.is);
    }

pub returns-in-Item : goal.returns-in-Item
returns-in-Item c = record {
  leads = leads_to_no_member c.in-Item.field-0 (view c.args.value.now)
      ∙ ap (λ s. leads_to_member (schema_step_of s) (view c.args.value.now)) (sym c.in-Item.is);
}
