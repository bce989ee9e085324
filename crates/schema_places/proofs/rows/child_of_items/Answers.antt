use Rattle.std.proofs.Common.{◌≡◌, ◌∙◌, ap, sym, ℕ, ◌+◌, arith}
use Rattle.std.specs.Prelude.{slice_get}
use Rattle.theory_definitions.specs.Instance.{to_item}
use Rattle.schema_reports.specs.InstanceViews.{step_of}
use Rattle.schema_reports.specs.declared.instance.InstanceStep.{InstanceStep}
use Rattle.schema_places.specs.Rows.{leads_to_items, led_by}
use Rattle.schema_places.proofs.Searching.{copied_item, item_leads, member_no_item, name_no_item}
use Rattle.schema_places.proofs.rows.child_of_items.Goals as goal

pub returns-in-Item : goal.returns-in-Item
returns-in-Item c =
    let numbers = c.args.numbers.now in
    let got : c.copied.result ≡ slice_get numbers c.in-Item.index = c.copied.ensures ∙ copied_item numbers c.in-Item.index c.get.result c.get.ensures.lookup in
    let here : 0 + c.in-Item.index ≡ c.in-Item.index = omega arith in
    record {
      child = got ∙ item_leads 0 c.in-Item.index numbers ∙ ap (λ (i : ℕ). led_by (to_item i) (leads_to_items 0 numbers)) here
          ∙ sym (ap (λ (s : InstanceStep). led_by (step_of s) (leads_to_items 0 numbers)) c.in-Item.is);
    }

pub returns-in-Member : goal.returns-in-Member
returns-in-Member c =
    let numbers = c.args.numbers.now in
    record { child = sym (ap (λ (s : InstanceStep). led_by (step_of s) (leads_to_items 0 numbers)) c.in-Member.is ∙ member_no_item _ 0 numbers) }

pub returns-in-NameOf : goal.returns-in-NameOf
returns-in-NameOf c =
    let numbers = c.args.numbers.now in
    record { child = sym (ap (λ (s : InstanceStep). led_by (step_of s) (leads_to_items 0 numbers)) c.in-NameOf.is ∙ name_no_item _ 0 numbers) }
