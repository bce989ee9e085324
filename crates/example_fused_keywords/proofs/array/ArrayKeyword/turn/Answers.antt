use Rattle.example_fused_keywords.proofs.array.ArrayKeyword.turn.Goals as goal

pub returns-clause-borrows : goal.returns-clause-borrows
returns-clause-borrows c = λ root replied before. c.in_ok-number.ensures.borrows root replied (c.in_ok-open.ensures.borrows root before)
