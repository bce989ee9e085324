use Rattle.std.proofs.Common.{◌∙◌, All, subst}
use Rattle.schema_reports.specs.InstanceViews.{subject_of}
use Rattle.theory_definitions.specs.Meaning.{fault_error}
use Rattle.schema_reports.specs.ReportViews.{error_of, BorrowsItsPlace}
use Rattle.schema_run_steps.specs.EvaluationPlaces.{steps_to}
use Rattle.schema_run_context.specs.EvaluationPaths.{path_of}
use Rattle.schema_traits.specs.FaultViews.{LiesInside}
use Rattle.schema_traits.specs.KeywordViews.{fault_of}
use Rattle.schema_run_steps.specs.Askings.{entry_where}
use Rattle.schema_node_table.specs.NodeViews.{node_of}
use Rattle.schema_traits.proofs.Replies.{made_more, all_pushed, all_first, all_rest}
use Rattle.schema_run_steps.proofs.faults.errors_by.Goals as goal

pub loop-fault-preserved : goal.loop-fault-preserved
loop-fault-preserved g c = record {
  so_far = λ texts. made_more (error_of texts) (fault_error (entry_where (node_of c.args.node.now) (path_of c.args.question.now.path.now) (steps_to c.args.question.now.place.now)) c.args.name.now) (fault_of texts)
      c.loop-fault.errors.items _ c.in_ok-error_by.field-0 c.in-Some.fault _ _ _ c.in_ok-push.ensures.items c.in-Some.ensures.steps.0 (c.in_ok-error_by.ensures.error texts) (c.loop-fault.invariant.so_far texts);
  borrows = λ root at_place each.
      let s = subject_of c.args.question.now.instance in
      let i = c.loop-fault.invariant.borrows root at_place each in
      let left = subst (All (LiesInside root s)) c.in-Some.ensures.steps.0 i.1 in
      let this = c.in_ok-error_by.ensures.borrows root at_place (all_first (LiesInside root s) _ _ left) in
      (rw c.in_ok-push.ensures.items (all_pushed (BorrowsItsPlace root) c.loop-fault.errors.items c.in_ok-error_by.field-0 i.0 this), all_rest (LiesInside root s) _ _ left);
  stays = c.in_ok-error_by.ensures.stays ∙ c.loop-fault.invariant.stays;
}
