use Rattle.std.proofs.Common.{◌<◌, ◌∙◌, ap, map, sym, subst, Some, length, arith}
use Rattle.std.specs.Prelude.{All}
use Rattle.std.proofs.lemmas.List.Elements.{All-set}
use Rattle.theory_definitions.specs.Instance.{subject_at}
use Rattle.schema_reports.specs.InstanceViews.{subject_of}
use Rattle.theory_definitions.specs.Meaning.{stamped}
use Rattle.schema_reports.specs.ReportViews.{error_of, BorrowsItsPlace}
use Rattle.schema_node_table.specs.NodeTable.{keyword_absolute}
use Rattle.schema_node_table.specs.NodeViews.{node_of}
use Rattle.schema_run_steps.proofs.Stamped.{all_written, one_written, written_back}
use Rattle.schema_run_steps.proofs.replies.stamped_errors.Goals as goal

pub loop-error-init : goal.loop-error-init
loop-error-init g c = record {
  so_far = λ texts. ap (λ es. map (stamped (keyword_absolute (node_of c.args.node.now) c.args.name.now)) (map (error_of texts) es)) c.deref_mut-error-items.ensures.value;
  borrows = λ root each. subst (All (BorrowsItsPlace root)) (sym c.deref_mut-error-items.ensures.value) each;
}

pub loop-error-preserved : goal.loop-error-preserved
loop-error-preserved g c = record {
  so_far = λ texts. one_written (error_of texts) (stamped (keyword_absolute (node_of c.args.node.now) c.args.name.now))
      c.loop-error.error-items c.loop-error.error-index c.stamp.new.error c.error-item.result (omega (arith, c.loop-error-test.true, c.loop-error.auto.error-items)) c.error-item.is
      (c.in_ok-stamp.ensures.stamped texts ∙ ap (λ e. stamped (keyword_absolute (node_of c.args.node.now) c.args.name.now) (error_of texts e)) (sym c.error-item.is))
      ∙ c.loop-error.invariant.so_far texts;
  borrows = λ root each.
      let i = c.loop-error.invariant.borrows root each in
      let lt : c.loop-error.error-index < length c.loop-error.error-items = omega (arith, c.loop-error-test.true, c.loop-error.auto.error-items) in
      let this = i c.loop-error.error-index c.error-item.result lt in
      let same = ap (subject_at root) c.in_ok-stamp.ensures.place ∙ this ∙ ap (λ x. Some (subject_of x)) (sym c.in_ok-stamp.ensures.instance) in
      All-set (BorrowsItsPlace root) c.loop-error.error-items c.loop-error.error-index c.stamp.new.error same i;
}

pub returns-clause-stamped : goal.returns-clause-stamped
returns-clause-stamped g c = λ texts.
    let f = stamped (keyword_absolute (node_of c.args.node.now) c.args.name.now) in
    let l = c.loop-error.auto.error-items ∙ ap length c.deref_mut-error-items.ensures.value in
    let back = written_back c.args.errors.len c.loop-error.error-items c.args.errors.items l (omega (arith, c.args.errors.ok.0)) in
    ap (map (error_of texts)) back ∙ sym (all_written (error_of texts) f c.loop-error.error-items c.loop-error.error-index (omega (arith, l, c.loop-error-test.false, c.loop-error.auto.error-items))) ∙ c.loop-error.invariant.so_far texts

pub returns-clause-borrows : goal.returns-clause-borrows
returns-clause-borrows g c = λ root each.
    let l = c.loop-error.auto.error-items ∙ ap length c.deref_mut-error-items.ensures.value in
    let back = written_back c.args.errors.len c.loop-error.error-items c.args.errors.items l (omega (arith, c.args.errors.ok.0)) in
    subst (All (BorrowsItsPlace root)) (sym back) (c.loop-error.invariant.borrows root each)
