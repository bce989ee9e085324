use Rattle.schema_applicators.proofs.one_of.turn_one_of.Goals as goal

pub returns-in-Asks-clause-borrows : goal.returns-in-Asks-clause-borrows
returns-in-Asks-clause-borrows c = λ root errors faults. c.in_ok-judging.ensures.borrows root faults

pub returns-in_ok-tell_one_of-in-Judged-clause-borrows : goal.returns-in_ok-tell_one_of-in-Judged-clause-borrows
returns-in_ok-tell_one_of-in-Judged-clause-borrows c = λ root errors faults. c.in_ok-tell_one_of-in-Judged.ensures.borrows root (c.in_ok-judging.ensures.borrows root faults)

pub returns-in-Over-clause-borrows : goal.returns-in-Over-clause-borrows
returns-in-Over-clause-borrows c = λ root errors faults. c.in_ok-judging.ensures.borrows root faults
