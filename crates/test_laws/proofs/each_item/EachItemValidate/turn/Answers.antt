use Rattle.test_laws.proofs.each_item.EachItemValidate.turn.Goals as goal

pub returns-clause-borrows : goal.returns-clause-borrows
returns-clause-borrows c = λ root replied before. c.in_ok-tell.ensures.borrows root before
