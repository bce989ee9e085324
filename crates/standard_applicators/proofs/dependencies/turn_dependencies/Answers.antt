use Rattle.std.proofs.lemmas.Result.{IfOk-weaker}
use Rattle.standard_applicators.proofs.dependencies.turn_dependencies.Goals as goal

pub returns-clause-borrows : goal.returns-clause-borrows
returns-clause-borrows c = IfOk-weaker c.turn_dependents.result _ _ (λ step kept root replied before. kept root replied (c.in_ok-ends.ensures.borrows root before)) c.turn_dependents.ensures.borrows
