use Rattle.std.proofs.Common.{◌∙◌, ap, false, true≢false, sym}
use Rattle.schema_traits.proofs.Replies.{if_ok_mono}
use Rattle.schema_run_steps.proofs.replies.false_error.Goals as goal

pub returns-clause-place : goal.returns-clause-place
returns-clause-place g c = if_ok_mono c.false_schema.result _ _ (λ e h. ap (λ x. x.place) (h false (λ q. absurd (true≢false (sym q)))) ∙ c.in_ok-made.ensures.same) c.false_schema.ensures.error
