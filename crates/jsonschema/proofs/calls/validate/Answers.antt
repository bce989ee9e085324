use Rattle.std.proofs.lemmas.Result.{IfErr-weaker}
use Rattle.jsonschema.proofs.Asking.{unrefused_call, first_error_of}
use Rattle.jsonschema.proofs.Handing.{built_told}
use Rattle.jsonschema.proofs.calls.validate.Goals as goal

pub returns-in-Ok-clause-answer : goal.returns-in-Ok-clause-answer
returns-in-Ok-clause-answer c = built_told c.validate-answer.result c.told_call.result _ c.told_call.ensures.same
    (first_error_of _ _ _ _ _ c.in-Ok.ensures.built _ c.validate-answer.result c.validate-answer.ensures.depth c.validate-answer.ensures.senses c.validate-answer.ensures.greatest c.validate-answer.ensures.points c.validate-answer.ensures.borrows)

pub returns-in-Ok-clause-refused : goal.returns-in-Ok-clause-refused
returns-in-Ok-clause-refused c = IfErr-weaker c.told_call.result _ _ (unrefused_call _ _ _ _ _ c.in-Ok.ensures.built) c.told_call.ensures.unrefused
