use Rattle.std.proofs.Common.{IfOk, string_bytes, subst, true}
use Rattle.std.proofs.lemmas.Result.{IfOk-weaker}
use Rattle.schema_reports.specs.UnitViews.{unit_of}
use Rattle.schema_output.specs.Output.{output_list}
use Rattle.schema_output.specs.Texts.{IsJsonText}
use Rattle.schema_output.proofs.evaluation.Evaluation.list_text.Goals as goal

pub returns : goal.returns
returns c =
    let made : IfOk c.output_text.result (λ text. IsJsonText (output_list (unit_of true c.args.self.now)) (string_bytes text)) =
    subst (λ n. IfOk c.output_text.result (λ text. IsJsonText (output_list (unit_of true n)) (string_bytes text))) c.self.view_is c.output_text.ensures.text in
    record {
      text = IfOk-weaker c.output_text.result _ _ (λ _ t. t.compact) made;
      compact = IfOk-weaker c.output_text.result _ _ (λ _ t. t.spaceless) made;
      order = IfOk-weaker c.output_text.result _ _ (λ _ t. t.ordered) made;
      reads_back = IfOk-weaker c.output_text.result _ _ (λ _ t. t.reads_back) made;
    }
