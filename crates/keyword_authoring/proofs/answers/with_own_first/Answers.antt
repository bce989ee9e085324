use Rattle.std.proofs.Common.{All, subst, sym}
use Rattle.schema_traits.specs.FaultViews.{PassesBorrowed, faults_in}
use Rattle.keyword_authoring.proofs.BorrowedFaults.{kept_borrowed}
use Rattle.keyword_authoring.proofs.answers.with_own_first.Goals as goal

pub returns-clause-borrows : goal.returns-clause-borrows
returns-clause-borrows c = λ root faults. subst (All (PassesBorrowed root)) (sym c.with_first.ensures.faults)
    (kept_borrowed root (faults_in c.args.before) _ faults (subst (PassesBorrowed root) (sym c.in_ok-new.ensures.ok) (c.in_ok-fault.ensures.borrows root)))
