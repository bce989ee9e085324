use Rattle.std.proofs.Common.{◌∙◌, ◌+◌, ap, arith, sym, ℕ}
use Rattle.std.specs.Prelude.{Option, option_map}
use Rattle.schema_reports.specs.InstanceViews.{step_of}
use Rattle.schema_reports.specs.declared.instance.InstanceStep.{InstanceStep}
use Rattle.schema_places.specs.Rows.{leads_to_names, led_by, named_by}
use Rattle.schema_places.specs.RowViews.{text_at}
use Rattle.schema_places.proofs.Searching.{found_small, item_no_member, member_leads, name_leads}
use Rattle.schema_places.proofs.rows.child_of_members.Goals as goal

pub overflow_add-result : goal.overflow_add-result
overflow_add-result c =
    let small = found_small (text_at c.args.rows.now) c.in-Member.name.now c.args.numbers.now c.in-Some.number c.requires.small c.in-Some.ensures.number in
    omega (arith, small)

pub returns-in-Item : goal.returns-in-Item
returns-in-Item c =
    let names = named_by (text_at c.args.rows.now) c.args.numbers.now in
    record { child = sym (ap (λ (s : InstanceStep). led_by (step_of s) (leads_to_names names)) c.in-Item.is ∙ item_no_member _ names) }

pub returns-in-Some : goal.returns-in-Some
returns-in-Some c =
    let f = text_at c.args.rows.now in
    let names = named_by f c.args.numbers.now in
    record {
      child = ap (λ (o : Option ℕ). option_map (λ n. n + 1) o) c.in-Some.ensures.number ∙ member_leads f c.in-Member.name.now c.args.numbers.now
          ∙ sym (ap (λ (s : InstanceStep). led_by (step_of s) (leads_to_names names)) c.in-Member.is);
    }

pub returns-in-None : goal.returns-in-None
returns-in-None c =
    let f = text_at c.args.rows.now in
    let names = named_by f c.args.numbers.now in
    record {
      child = ap (λ (o : Option ℕ). option_map (λ n. n + 1) o) c.in-None.ensures.number ∙ member_leads f c.in-Member.name.now c.args.numbers.now
          ∙ sym (ap (λ (s : InstanceStep). led_by (step_of s) (leads_to_names names)) c.in-Member.is);
    }

pub returns-in-NameOf : goal.returns-in-NameOf
returns-in-NameOf c =
    let names = named_by (text_at c.args.rows.now) c.args.numbers.now in
    record {
      child = c.number_of-in-NameOf.ensures.number ∙ name_leads c.in-NameOf.name.now names
          ∙ sym (ap (λ (s : InstanceStep). led_by (step_of s) (leads_to_names names)) c.in-NameOf.is);
    }
