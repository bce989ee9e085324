use Rattle.std.proofs.lemmas.Result.{IfOk-weaker}
use Rattle.standard_pattern_properties.proofs.keyword.GatedKeywordValidate.turn.Goals as goal

pub returns-clause-borrows : goal.returns-clause-borrows
returns-clause-borrows c = IfOk-weaker c.make.result _ _ (λ x h root told old. h root (c.in_ok-take_asked.ensures.borrows root told old)) c.make.ensures.borrows
