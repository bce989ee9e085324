use Rattle.std.proofs.Common.{◌≡◌, ◌≤◌, None, length, rules, true}
use Rattle.std.proofs.lemmas.Result.{IfOk-weaker}
use Rattle.serde_json.specs.Written.{compact_text}
use Rattle.schema_reports.specs.UnitViews.{report_in}
use Rattle.schema_output.specs.Output.{unit_object}
use Rattle.schema_output.proofs.Shorts.{prints_short}
use Rattle.schema_output.proofs.text.push_unit.Goals as goal

pub returns-then-len-le1 : goal.returns-then-len-le1
returns-then-len-le1 c =
    let r = c.args.report.now in
    let none : r.annotations ≡ None = search rules in
    let few : length r.errors.items ≤ 1 = search rules in
    record { pushed = IfOk-weaker c.push_short.result _ _ (λ _ e. (compact_text (unit_object (report_in true r)), prints_short r none few, e)) c.push_short.ensures.pushed }
