use Rattle.std.proofs.Common.{All, subst, sym}
use Rattle.schema_traits.specs.FaultViews.{PassesBorrowed}
use Rattle.keyword_authoring.proofs.BorrowedFaults.{pushed_borrowed}
use Rattle.keyword_authoring.proofs.answers.with_own_last.Goals as goal

pub returns-clause-borrows : goal.returns-clause-borrows
returns-clause-borrows c = λ root faults. subst (All (PassesBorrowed root)) (sym c.in_ok-push.ensures.items)
    (pushed_borrowed root c.in_ok-faults.faults.items _ (subst (All (PassesBorrowed root)) (sym c.in_ok-faults.ensures.faults) faults) (c.in_ok-own_fault.ensures.borrows root))
