use Rattle.std.proofs.lemmas.Result.{IfOk-weaker}
use Rattle.standard_meta.proofs.meta.checker_of.Goals as goal

pub returns : goal.returns
returns c = record {
  means = IfOk-weaker c.checker_by-checker.result _ _ (λ _ means. means c.in_ok-documents.ensures.root c.in_ok-documents.ensures.others) c.checker_by-checker.ensures.means;
}
