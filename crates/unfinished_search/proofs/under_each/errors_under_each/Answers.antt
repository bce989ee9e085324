use Rattle.std.proofs.Common.{Ok}
use Rattle.serde_json.specs.View.{view}
use Rattle.unfinished_search.proofs.MadeRuns.{makes_further}
use Rattle.unfinished_search.proofs.Reached.{reached}
use Rattle.unfinished_search.proofs.SearchedErrors.{all_errors_say, errors_given, first_error_says, none_says}
use Rattle.unfinished_search.proofs.under_each.errors_under_each.Goals as goal

pub returns-clause-errors : goal.returns-clause-errors
returns-clause-errors g c = λ v call later follows is. all_errors_say v follows (view c.args.root.now) (λ s x m t end. goal.F-step g s x (Ok (m, t)) end) c.args.first.0 c.args.run.now c.assume_each_outcome.new.run c.args.run_limit call later is c.in_ok-outcomes.outcomes c.in_ok-outcomes.ensures.outcomes c.in_ok-errors.field-0 c.in_ok-errors.ensures.shared

pub returns-clause-first : goal.returns-clause-first
returns-clause-first g c = λ v follows is. first_error_says v follows (view c.args.root.now) (λ s x m t end. goal.F-step g s x (Ok (m, t)) end) c.args.first.0 c.args.run.now c.assume_each_outcome.new.run c.args.run_limit is c.in_ok-outcomes.outcomes c.in_ok-outcomes.ensures.outcomes c.in_ok-errors.field-0 c.in_ok-errors.ensures.shared

pub returns-clause-verdict : goal.returns-clause-verdict
returns-clause-verdict g c = λ v call follows is. none_says v follows (view c.args.root.now) (λ s x m t end. goal.F-step g s x (Ok (m, t)) end) c.args.first.0 c.args.run.now c.assume_each_outcome.new.run c.args.run_limit call is c.in_ok-outcomes.outcomes c.in_ok-outcomes.ensures.outcomes c.in_ok-errors.field-0 c.in_ok-errors.ensures.shared

pub returns-clause-gives : goal.returns-clause-gives
returns-clause-gives g c = λ v call is. errors_given v call (view c.args.root.now) (λ s x m t end. goal.F-step g s x (Ok (m, t)) end) c.args.first.0 c.args.run.now c.assume_each_outcome.new.run c.args.run_limit is c.in_ok-outcomes.outcomes c.in_ok-outcomes.ensures.outcomes c.in_ok-errors.field-0 c.in_ok-errors.ensures.shared

pub returns-clause-reaches : goal.returns-clause-reaches
returns-clause-reaches g c = reached (λ s x m t end. goal.F-step g s x (Ok (m, t)) end) c.args.run.now c.args.first.0 c.args.run_limit c.assume_each_outcome.new.run c.in_ok-outcomes.outcomes c.in_ok-outcomes.ensures.outcomes

pub returns-clause-makes : goal.returns-clause-makes
returns-clause-makes g c = λ v call is. makes_further v call (λ s x m t end. goal.F-step g s x (Ok (m, t)) end) c.args.first.0 c.args.run.now _ _ is c.args.run_limit c.assume_each_outcome.new.run c.in_ok-outcomes.outcomes c.in_ok-outcomes.ensures.outcomes
