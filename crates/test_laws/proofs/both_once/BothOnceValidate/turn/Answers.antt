use Rattle.test_laws.proofs.both_once.BothOnceValidate.turn.Goals as goal

pub returns-in_ok-tell-in-AsksSecond-clause-borrows : goal.returns-in_ok-tell-in-AsksSecond-clause-borrows
returns-in_ok-tell-in-AsksSecond-clause-borrows c = λ root replied before. c.in_ok-tell-in-AsksSecond.ensures.borrows root before

pub returns-in_ok-tell-in-Ends-clause-borrows : goal.returns-in_ok-tell-in-Ends-clause-borrows
returns-in_ok-tell-in-Ends-clause-borrows c = λ root replied before. c.in_ok-tell-in-Ends.ensures.borrows root before
