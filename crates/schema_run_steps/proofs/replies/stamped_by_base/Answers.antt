use Rattle.std.proofs.Common.{◌∙◌, ap, sym, Some, [], arith}
use Rattle.theory_definitions.specs.Instance.{subject_at}
use Rattle.schema_reports.specs.InstanceViews.{subject_of}
use Rattle.schema_reports.specs.ReportViews.{BorrowsItsPlace}
use Rattle.schema_traits.proofs.Replies.{all_first, all_pushed}
use Rattle.schema_run_steps.proofs.replies.stamped_by_base.Goals as goal

pub returns-in_ok-stamp-in-Some-clause-borrows : goal.returns-in_ok-stamp-in-Some-clause-borrows
returns-in_ok-stamp-in-Some-clause-borrows g c = λ root h.
    let old = rw (c.in-First.is, c.in-Some.is) at h in
    let below = c.deref_mut.ensures.value in
    let same = ap (subject_at root) c.in_ok-stamp-in-Some.ensures.place ∙ ap (λ e. subject_at root e.place) below ∙ all_first (BorrowsItsPlace root) _ [] old ∙ ap (λ e. Some (subject_of e.instance)) (sym below) ∙ ap (λ x. Some (subject_of x)) (sym c.in_ok-stamp-in-Some.ensures.instance) in
    all_pushed (BorrowsItsPlace root) [] _ (λ i d l. absurd (omega arith)) same

pub returns-in_ok-errors-in-All-clause-borrows : goal.returns-in_ok-errors-in-All-clause-borrows
returns-in_ok-errors-in-All-clause-borrows g c = λ root h. c.in_ok-errors-in-All.ensures.borrows root (rw c.in-All.is at h)
