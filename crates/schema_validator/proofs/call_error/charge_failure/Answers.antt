use Rattle.std.proofs.Common.{◌∙◌, sym}
use Rattle.schema_validator.proofs.Budgets.{names_depth, names_limit, names_memory}
use Rattle.schema_validator.proofs.call_error.charge_failure.Goals as goal

pub returns-then-is_too_deep-clause-names : goal.returns-then-is_too_deep-clause-names
returns-then-is_too_deep-clause-names c = names_depth _ _ c.charge.ensures.spends (sym c.is_too_deep.ensures.too_deep ∙ c.if-is_too_deep.true) (c.is_too_deep.ensures.bounded c.if-is_too_deep.true)

pub returns-then-is_stopped-clause-names : goal.returns-then-is_stopped-clause-names
returns-then-is_stopped-clause-names c = names_limit _ _ c.charge.ensures.spends (sym c.is_too_deep.ensures.too_deep ∙ c.if-is_too_deep.false) (sym c.is_stopped.ensures.stopped ∙ c.if-is_stopped.true) (c.is_stopped.ensures.spent c.if-is_stopped.true)

pub returns-clause-names : goal.returns-clause-names
returns-clause-names c = names_memory _ _ (sym c.is_too_deep.ensures.too_deep ∙ c.if-is_too_deep.false) (sym c.is_stopped.ensures.stopped ∙ c.if-is_stopped.false)
