use Rattle.std.proofs.lemmas.Result.{IfErr-weaker}
use Rattle.jsonschema.proofs.Asking.{unrefused_call, verdict_of}
use Rattle.jsonschema.proofs.Handing.{built_told}
use Rattle.jsonschema.proofs.calls.is_valid.Goals as goal

pub returns-in-Ok-clause-answer : goal.returns-in-Ok-clause-answer
returns-in-Ok-clause-answer c = built_told c.is_valid-answer.result c.told_call.result _ c.told_call.ensures.same
    (verdict_of _ _ _ _ _ c.in-Ok.ensures.built _ c.is_valid-answer.result c.is_valid-answer.ensures.depth c.is_valid-answer.ensures.senses c.is_valid-answer.ensures.greatest)

pub returns-in-Ok-clause-refused : goal.returns-in-Ok-clause-refused
returns-in-Ok-clause-refused c = IfErr-weaker c.told_call.result _ _ (unrefused_call _ _ _ _ _ c.in-Ok.ensures.built) c.told_call.ensures.unrefused
