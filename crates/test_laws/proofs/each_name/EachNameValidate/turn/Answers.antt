use Rattle.test_laws.proofs.each_name.EachNameValidate.turn.Goals as goal

pub returns-in_ok-tell-in-None-clause-borrows : goal.returns-in_ok-tell-in-None-clause-borrows
returns-in_ok-tell-in-None-clause-borrows c = λ root replied before. c.in_ok-tell-in-None.ensures.borrows root before
