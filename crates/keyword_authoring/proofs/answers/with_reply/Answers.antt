use Rattle.std.proofs.Common.{All, [], subst, sym}
use Rattle.schema_reports.specs.ReportViews.{BorrowsItsPlace}
use Rattle.schema_traits.specs.FaultViews.{PassesBorrowed, faults_in}
use Rattle.schema_traits.proofs.Replies.{all_first}
use Rattle.keyword_authoring.proofs.BorrowedFaults.{kept_borrowed, passed_borrowed}
use Rattle.keyword_authoring.proofs.answers.with_reply.Goals as goal

pub returns-in_ok-new-in-Some-clause-borrows : goal.returns-in_ok-new-in-Some-clause-borrows
returns-in_ok-new-in-Some-clause-borrows c = λ root errors faults.
    let replied = rw (c.in-First.is, c.in-Some.is) at errors in
    let borrowed = all_first (BorrowsItsPlace root) _ [] replied in
    let passed = subst (BorrowsItsPlace root) (sym c.into_inner.ensures) borrowed in
    subst (All (PassesBorrowed root)) (sym c.with_first.ensures.faults)
    (kept_borrowed root (faults_in c.args.before) _ faults (subst (PassesBorrowed root) (sym c.in_ok-new-in-Some.ensures.ok) passed))

pub returns-in_ok-pass_all-in-All-clause-borrows : goal.returns-in_ok-pass_all-in-All-clause-borrows
returns-in_ok-pass_all-in-All-clause-borrows c = λ root errors faults.
    let replied = rw c.in-All.is at errors in
    subst (All (PassesBorrowed root)) (sym c.in_ok-pass_all-in-All.ensures.added)
    (passed_borrowed root c.in_ok-faults-in-All.faults.items c.in-All.errors.items (subst (All (PassesBorrowed root)) (sym c.in_ok-faults-in-All.ensures.faults) faults) replied)
