use Rattle.keyword_authoring.proofs.answers.note.Goals as goal

pub returns-clause-borrows : goal.returns-clause-borrows
returns-clause-borrows c = λ root faults. c.in_ok-answer.ensures.borrows root (rw c.replace-before.ensures.value faults)
