use Rattle.std.proofs.Common.{Ok}
use Rattle.unfinished_search.proofs.MadeRuns.{makes_further}
use Rattle.unfinished_search.proofs.Reached.{reached}
use Rattle.unfinished_search.proofs.SearchedSays.{validity_exactly, validity_says}
use Rattle.unfinished_search.proofs.under_each.validity_under_each.Goals as goal

pub returns-clause-says : goal.returns-clause-says
returns-clause-says g c = λ v call follows is. rw c.validity.ensures.yes (validity_says v call follows (λ s x m t end. goal.F-step g s x (Ok (m, t)) end) c.args.first.0 c.args.run.now c.assume_each_outcome.new.run c.args.run_limit is c.in_ok-assume_each_outcome.field-0 c.in_ok-assume_each_outcome.ensures.outcomes)

pub returns-clause-exactly : goal.returns-clause-exactly
returns-clause-exactly g c = λ v call follows is. rw c.validity.ensures.yes (validity_exactly v call follows (λ s x m t end. goal.F-step g s x (Ok (m, t)) end) c.args.first.0 c.args.run.now c.assume_each_outcome.new.run c.args.run_limit is c.in_ok-assume_each_outcome.field-0 c.in_ok-assume_each_outcome.ensures.outcomes)

pub returns-clause-reaches : goal.returns-clause-reaches
returns-clause-reaches g c = reached (λ s x m t end. goal.F-step g s x (Ok (m, t)) end) c.args.run.now c.args.first.0 c.args.run_limit c.assume_each_outcome.new.run c.in_ok-assume_each_outcome.field-0 c.in_ok-assume_each_outcome.ensures.outcomes

pub returns-clause-makes : goal.returns-clause-makes
returns-clause-makes g c = λ v call is. makes_further v call (λ s x m t end. goal.F-step g s x (Ok (m, t)) end) c.args.first.0 c.args.run.now _ _ is c.args.run_limit c.assume_each_outcome.new.run c.in_ok-assume_each_outcome.field-0 c.in_ok-assume_each_outcome.ensures.outcomes
