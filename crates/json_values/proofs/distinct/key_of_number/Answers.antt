use Rattle.std.proofs.Common.{◌∙◌, ap, sym, unwrap_or}
use Rattle.serde_json.specs.View.{number_view}
use Rattle.json_values.specs.Keys.{key_of_float}
use Rattle.json_values.proofs.RoundedKeys.{key_of_nearest}
use Rattle.json_values.proofs.distinct.key_of_number.Goals as goal

pub returns-in-Some : goal.returns-in-Some
returns-in-Some c =
    record {
      key = c.key_of_float.ensures.key ∙ ap (λ o. key_of_float (unwrap_or o c.in-Some.x)) (sym c.in-Some.is ∙ c.as_f64.ensures) ∙ key_of_nearest (number_view c.args.number.now);
    }
