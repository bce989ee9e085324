use Rattle.std.proofs.lemmas.List.Elements.{All-nil}
use Rattle.std.proofs.lemmas.Result.{IfOk-weaker}
use Rattle.test_laws.proofs.items.ItemsKeywordValidate.turn.Goals as goal

pub returns-in-Enters-clause-borrows : goal.returns-in-Enters-clause-borrows
returns-in-Enters-clause-borrows c = IfOk-weaker c.work.result _ _ (λ step kept root replied before. kept root (All-nil _) before) c.work.ensures.borrows
