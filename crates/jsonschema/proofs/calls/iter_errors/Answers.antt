use Rattle.std.proofs.lemmas.Result.{IfErr-weaker}
use Rattle.jsonschema.proofs.Asking.{unrefused_call, errors_of}
use Rattle.jsonschema.proofs.Handing.{built_told}
use Rattle.jsonschema.proofs.calls.iter_errors.Goals as goal

pub returns-in-Ok-clause-answer : goal.returns-in-Ok-clause-answer
returns-in-Ok-clause-answer c = built_told c.iter_errors-answer.result c.told_call.result _ c.told_call.ensures.same
    (errors_of _ _ _ _ _ c.in-Ok.ensures.built _ c.iter_errors-answer.result c.iter_errors-answer.ensures.depth c.iter_errors-answer.ensures.senses c.iter_errors-answer.ensures.greatest c.iter_errors-answer.ensures.points c.iter_errors-answer.ensures.borrows)

pub returns-in-Ok-clause-refused : goal.returns-in-Ok-clause-refused
returns-in-Ok-clause-refused c = IfErr-weaker c.told_call.result _ _ (unrefused_call _ _ _ _ _ c.in-Ok.ensures.built) c.told_call.ensures.unrefused
