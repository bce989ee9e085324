use Rattle.std.proofs.Common.{◌++◌, ◌∙◌, ap, subst, string_bytes, true}
use Rattle.std.proofs.lemmas.Result.{IfOk-weaker}
use Rattle.schema_reports.specs.UnitViews.{report_in}
use Rattle.schema_output.specs.Output.{unit_object}
use Rattle.schema_output.specs.Texts.{Prints}
use Rattle.schema_output.proofs.Printing.{prints_of_text}
use Rattle.schema_output.proofs.Pushes.{pushed_whole}
use Rattle.schema_output.proofs.text.push_value.Goals as goal

pub returns : goal.returns
returns c =
    let text = string_bytes c.in_ok-text.text in
    let made = c.in_ok-text.ensures in
    let prints : Prints (unit_object (report_in true c.args.report.now)) text =
    subst (λ d. Prints d text) c.in_ok-unit_object.ensures.object (prints_of_text _ text made.compact made.order made.reads_back) in
    record {
      pushed = IfOk-weaker c.push_str.result _ _ (λ _ e. (text, prints, e ∙ ap (λ s. string_bytes c.args.out.now ++ s) c.as_str.ensures.value))
          (pushed_whole c.push_str.result _ (string_bytes c.args.out.now) c.as_str.result.now c.push_str.ensures.bytes);
    }
