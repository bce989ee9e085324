use Rattle.test_laws.proofs.refusals.tell.Goals as goal

pub returns-in_ok-answer-clause-borrows : goal.returns-in_ok-answer-clause-borrows
returns-in_ok-answer-clause-borrows c = λ root before. c.in_ok-answer.ensures.borrows root
