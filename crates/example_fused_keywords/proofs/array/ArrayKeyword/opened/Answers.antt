use Rattle.std.proofs.lemmas.Result.{IfOk-weaker}
use Rattle.example_fused_keywords.proofs.array.ArrayKeyword.opened.Goals as goal

pub returns-in_ok-faults-in-First-clause-borrows : goal.returns-in_ok-faults-in-First-clause-borrows
returns-in_ok-faults-in-First-clause-borrows c = IfOk-weaker c.first_of.result _ _ (λ a kept root. kept root (c.in_ok-faults-in-First.ensures.borrows root)) c.first_of.ensures.borrows
