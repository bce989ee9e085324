use Rattle.std.proofs.Common.{◌∙◌, option_map, ap, sym}
use Rattle.serde_json.specs.View.{view}
use Rattle.serde_json.proofs.Views.{view-lookup}
use Rattle.schema_reports.proofs.Found.{get-of-object, same-from-equal}
use Rattle.schema_reports.proofs.instance.named_member.Goals as goal

pub returns-in-Some-get_key_value-clause-value : goal.returns-in-Some-get_key_value-clause-value
returns-in-Some-get_key_value-clause-value c =
    ap (option_map view) c.in-Some-get_key_value.ensures.value
    ∙ view-lookup c.args.name.now c.in-Some.map.now.entries
    ∙ sym (get-of-object c.args.name.now (view c.args.value.now) _ c.in-Some.ensures)

pub returns-in-Some-get_key_value-clause-name : goal.returns-in-Some-get_key_value-clause-name
returns-in-Some-get_key_value-clause-name c = c.as_str.ensures.value ∙ sym (same-from-equal _ _ c.in-Some-get_key_value.ensures.same_key)

pub returns-in-None-get_key_value-clause-value : goal.returns-in-None-get_key_value-clause-value
returns-in-None-get_key_value-clause-value c =
    ap (option_map view) c.in-None-get_key_value.ensures.value
    ∙ view-lookup c.args.name.now c.in-Some.map.now.entries
    ∙ sym (get-of-object c.args.name.now (view c.args.value.now) _ c.in-Some.ensures)
