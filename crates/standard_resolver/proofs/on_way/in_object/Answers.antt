use Rattle.std.proofs.Common.{◌&&◌, ◌∙◌, sym, ap}
use Rattle.std.specs.Prelude.{option_map}
use Rattle.serde_json.specs.Find.{get}
use Rattle.serde_json.specs.View.{view}
use Rattle.schema_traits.specs.SchemaViews.{schema_step_of}
use Rattle.standard_resolver.specs.OnWay.{leads_to_member}
use Rattle.standard_resolver.proofs.OnWay.{holds_of, in_an_object}
use Rattle.standard_resolver.proofs.on_way.in_object.Goals as goal

pub returns-then-not-is_named : goal.returns-then-not-is_named
returns-then-not-is_named c =
    let under = get c.args.keyword.now (view c.args.schema.now) in
    let second = schema_step_of c.args.second.now in
    record {
      among = sym (in_an_object c.args.keyword.now (schema_step_of c.args.first.now) second under
          ∙ ap (λ b. b && holds_of (leads_to_member second) under) (sym c.if-not-is_named.ensures.named));
    }

pub returns-in-Some : goal.returns-in-Some
returns-in-Some c =
    let under = get c.args.keyword.now (view c.args.schema.now) in
    let second = schema_step_of c.args.second.now in
    let is = sym c.get.ensures ∙ ap (option_map (λ v. view v.now)) c.in-Some.is in
    record {
      among = c.leads_to_member.ensures.leads ∙ sym (in_an_object c.args.keyword.now (schema_step_of c.args.first.now) second under
          ∙ ap (λ b. b && holds_of (leads_to_member second) under) (sym c.if-not-is_named.ensures.named)
          ∙ ap (holds_of (leads_to_member second)) is);
    }
