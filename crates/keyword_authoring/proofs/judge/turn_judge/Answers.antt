use Rattle.keyword_authoring.proofs.judge.turn_judge.Goals as goal

pub returns-in-Asks-clause-borrows : goal.returns-in-Asks-clause-borrows
returns-in-Asks-clause-borrows g c = λ root errors faults. c.in_ok-judging.ensures.borrows root faults

pub returns-in_ok-tell_judged-in-Judged-clause-borrows : goal.returns-in_ok-tell_judged-in-Judged-clause-borrows
returns-in_ok-tell_judged-in-Judged-clause-borrows g c = λ root errors faults. c.in_ok-tell_judged-in-Judged.ensures.borrows root (c.in_ok-judging.ensures.borrows root faults)

pub returns-in-Over-clause-borrows : goal.returns-in-Over-clause-borrows
returns-in-Over-clause-borrows g c = λ root errors faults. c.in_ok-judging.ensures.borrows root faults
