use Rattle.std.proofs.lemmas.Result.{IfOk-weaker}
use Rattle.jsonschema.proofs.Checking.{unrefused_checked}
use Rattle.jsonschema.proofs.build_options.BuildOptions.build_with.Goals as goal

pub returns-in-Ok-clause-built : goal.returns-in-Ok-clause-built
returns-in-Ok-clause-built c = IfOk-weaker c.build_checked.result _ _ (λ _ checked. record { needed = c.in-Ok.ensures.needed; checked = checked }) c.build_checked.ensures.built

pub returns-in-Err-clause-refused : goal.returns-in-Err-clause-refused
returns-in-Err-clause-refused c = unrefused_checked _ _ _ _ _ _ _ c.in-Err.ensures.unrefused
