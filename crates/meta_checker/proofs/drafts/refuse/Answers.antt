use Rattle.std.proofs.Common.{◌∙◌, Some, ap, false, sym, true≢false}
use Rattle.serde_json.specs.View.{view}
use Rattle.theory_definitions.specs.Instance.{subject_at}
use Rattle.schema_reports.specs.InstanceViews.{subject_of}
use Rattle.schema_traits.proofs.Replies.{if_ok_both, if_ok_mono}
use Rattle.meta_checker.proofs.drafts.refuse.Goals as goal

pub returns-clause-error : goal.returns-clause-error
returns-clause-error c = if_ok_mono c.false_schema.result _ _ (λ e said texts whole.
    rw (c.root-place.ensures.root, c.new-schema_path.ensures.empty, c.new-path.ensures.empty) at (said texts whole)) c.false_schema.ensures.error

pub returns-clause-borrows : goal.returns-clause-borrows
returns-clause-borrows c = if_ok_both c.false_schema.result _ _ _ (λ e said same.
    ap (subject_at (view c.args.schema.now)) (ap (λ x. x.place) (said false (λ q. absurd (true≢false (sym q)))) ∙ c.root-place.ensures.root)
    ∙ ap (λ i. Some (subject_of i)) (sym same)) c.false_schema.ensures.error c.false_schema.ensures.borrows
