use Rattle.std.proofs.Common.{◌∙◌, ap, subst, sym, [], arith, Some}
use Rattle.schema_reports.specs.InstanceViews.{subject_of}
use Rattle.theory_definitions.specs.Keywords.{first_of_it}
use Rattle.schema_reports.specs.ReportViews.{BorrowsItsPlace, error_of}
use Rattle.schema_run_steps.specs.EvaluationPlaces.{steps_to}
use Rattle.schema_run_context.specs.EvaluationPaths.{path_of}
use Rattle.schema_traits.specs.FaultViews.{LiesInside, faults_in}
use Rattle.schema_run_steps.specs.Askings.{entry_where}
use Rattle.schema_node_table.specs.NodeViews.{node_of}
use Rattle.schema_run_steps.proofs.FaultsFound.{first_made, first_holds}
use Rattle.schema_traits.proofs.Replies.{all_pushed}
use Rattle.schema_run_steps.proofs.faults.first_finished.Goals as goal

pub returns-in_ok-new-in-Some-clause-reply : goal.returns-in_ok-new-in-Some-clause-reply
returns-in_ok-new-in-Some-clause-reply g c = λ texts.
    let w = entry_where (node_of c.args.node.now) (path_of c.args.question.now.path.now) (steps_to c.args.question.now.place.now) in
    let first = sym c.in-Some.is ∙ c.first_fault.ensures.first in
    ap (λ e. first_of_it (Some (error_of texts e))) c.in_ok-new-in-Some.ensures.ok
    ∙ ap (λ e. first_of_it (Some e)) (c.in_ok-error-in-Some.ensures.error texts) ∙ ap first_of_it (sym (first_made texts w c.args.name.now c.args.answer c.in-Some.fault first))

pub returns-in_ok-new-in-Some-clause-borrows : goal.returns-in_ok-new-in-Some-clause-borrows
returns-in_ok-new-in-Some-clause-borrows g c = λ root at_place inside.
    let s = subject_of c.args.question.now.instance in
    let first = sym c.in-Some.is ∙ c.first_fault.ensures.first in
    let made = c.in_ok-error-in-Some.ensures.borrows root at_place (first_holds (LiesInside root s) (faults_in c.args.answer) c.in-Some.fault first inside) in
    all_pushed (BorrowsItsPlace root) [] _ (λ i d l. absurd (omega arith)) (subst (BorrowsItsPlace root) (sym c.in_ok-new-in-Some.ensures.ok) made)
