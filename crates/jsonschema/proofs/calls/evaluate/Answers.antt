use Rattle.std.proofs.lemmas.Result.{IfErr-weaker}
use Rattle.jsonschema.proofs.Asking.{unrefused_call, evaluation_of}
use Rattle.jsonschema.proofs.Handing.{built_told}
use Rattle.jsonschema.proofs.calls.evaluate.Goals as goal

pub returns-in-Ok-clause-answer : goal.returns-in-Ok-clause-answer
returns-in-Ok-clause-answer c = built_told c.evaluate-answer.result c.told_call.result _ c.told_call.ensures.same
    (evaluation_of _ _ _ _ _ c.in-Ok.ensures.built _ c.evaluate-answer.result c.evaluate-answer.ensures.depth c.evaluate-answer.ensures.senses c.evaluate-answer.ensures.greatest c.evaluate-answer.ensures.units c.evaluate-answer.ensures.plain)

pub returns-in-Ok-clause-refused : goal.returns-in-Ok-clause-refused
returns-in-Ok-clause-refused c = IfErr-weaker c.told_call.result _ _ (unrefused_call _ _ _ _ _ c.in-Ok.ensures.built) c.told_call.ensures.unrefused
