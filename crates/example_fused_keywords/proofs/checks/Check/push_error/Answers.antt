use Rattle.std.proofs.Common.{[], sym, subst}
use Rattle.std.specs.Prelude.{All}
use Rattle.std.proofs.lemmas.List.Elements.{All-append, All-cons, All-nil}
use Rattle.schema_traits.specs.FaultViews.{PassesBorrowed}
use Rattle.example_fused_keywords.proofs.checks.Check.push_error.Goals as goal

pub returns-clause-borrows : goal.returns-clause-borrows
returns-clause-borrows c = λ root before. subst (All (PassesBorrowed root)) (sym c.in_ok-push.ensures.items)
    (All-append (PassesBorrowed root) c.args.faults.now.items _ before (All-cons (PassesBorrowed root) _ [] (c.in_ok-own_fault.ensures.borrows root) (All-nil _)))
