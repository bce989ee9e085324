use Rattle.std.proofs.Common.{inr}
use Rattle.std.proofs.lemmas.Result.{IfErr-weaker, IfOk-weaker}
use Rattle.jsonschema.proofs.Handing.{unrefused_refuses}
use Rattle.jsonschema.proofs.build_options.BuildOptions.build_beside.Goals as goal

pub returns-in-Ok-clause-built : goal.returns-in-Ok-clause-built
returns-in-Ok-clause-built g c = IfOk-weaker c.build_among-built.result _ _ (λ _ said. said (inr c.in-Ok.ensures.read)) c.build_among-built.ensures.built

pub returns-in-Ok-clause-refused : goal.returns-in-Ok-clause-refused
returns-in-Ok-clause-refused g c = IfErr-weaker c.build_among-built.result _ _ (λ _ said. said (inr c.in-Ok.ensures.read)) c.build_among-built.ensures.refused

pub returns-in-Err-clause-refused : goal.returns-in-Err-clause-refused
returns-in-Err-clause-refused g c = unrefused_refuses _ _ _ _ _ _ _ c.unrefused.ensures.unrefused
