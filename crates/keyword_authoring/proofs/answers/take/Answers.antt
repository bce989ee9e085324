use Rattle.keyword_authoring.proofs.answers.take.Goals as goal

pub returns-then-not-holds-clause-borrows : goal.returns-then-not-holds-clause-borrows
returns-then-not-holds-clause-borrows c = λ root errors faults. c.refuse.ensures.borrows root faults
