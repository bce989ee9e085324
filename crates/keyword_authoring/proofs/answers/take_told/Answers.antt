use Rattle.keyword_authoring.proofs.answers.take_told.Goals as goal

pub returns-clause-borrows : goal.returns-clause-borrows
returns-clause-borrows c = λ root errors faults. c.in_ok-answer.ensures.borrows root errors (rw c.replace-before.ensures.value faults)
