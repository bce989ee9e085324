use Rattle.example_fused_keywords.proofs.array.ArrayKeyword.open.Goals as goal

pub returns-in_ok-answer-in-Begun-clause-borrows : goal.returns-in_ok-answer-in-Begun-clause-borrows
returns-in_ok-answer-in-Begun-clause-borrows c = λ root before. c.in_ok-answer-in-Begun.ensures.borrows root
