use Rattle.std.proofs.Common.{◌∙◌, sym}
use Rattle.schema_validator.proofs.Budgets.{charged_deep, charged_plain}
use Rattle.schema_validator.proofs.call_error.after_call.Goals as goal

pub returns-then-not-is_too_deep : goal.returns-then-not-is_too_deep
returns-then-not-is_too_deep c = charged_plain _ _ _ c.after_steps-after.ensures (sym c.is_too_deep.ensures.too_deep ∙ c.if-not-is_too_deep.true)

pub returns : goal.returns
returns c = charged_deep _ _ _ c.after_steps-after.ensures _ (sym c.is_too_deep.ensures.too_deep ∙ c.if-not-is_too_deep.false) (c.is_too_deep.ensures.bounded c.if-not-is_too_deep.false) c.stop_at_depth.ensures.frame c.stop_at_depth.ensures.too_deep
