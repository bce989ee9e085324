use Rattle.std.specs.Prelude.{[]}
use Rattle.std.proofs.lemmas.List.Elements.{All-cons, All-nil}
use Rattle.schema_traits.specs.FaultViews.{PassesBorrowed}
use Rattle.test_laws.proofs.refusals.refused.Goals as goal

pub returns-in_ok-new-in-First-clause-borrows : goal.returns-in_ok-new-in-First-clause-borrows
returns-in_ok-new-in-First-clause-borrows c = λ root. All-cons (PassesBorrowed root) _ [] (rw c.in_ok-new-in-First.ensures.ok (c.in_ok-fault-in-First.ensures.borrows root)) (All-nil _)

pub returns-in_ok-push-in-All-clause-borrows : goal.returns-in_ok-push-in-All-clause-borrows
returns-in_ok-push-in-All-clause-borrows c = λ root. rw (c.in_ok-push-in-All.ensures.items, c.new-faults.ensures.items) (All-cons (PassesBorrowed root) _ [] (c.in_ok-refusal-in-All.ensures.borrows root) (All-nil _))
