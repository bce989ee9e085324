use Rattle.std.proofs.Common.{ap, ◌∙◌}
use Rattle.serde_json.specs.View.{view}
use Rattle.meta_checker.specs.DraftChecks.{first_of}
use Rattle.schema_traits.proofs.Replies.{if_ok_mono}
use Rattle.meta_checker.proofs.drafts.DraftCheckersMetaValidators.check.Goals as goal

pub returns-clause-checked : goal.returns-clause-checked
returns-clause-checked g c = if_ok_mono c.check_by.result _ _ (λ o checked texts whole.
    checked texts whole ∙ ap (λ p. first_of g.K.Validate g.M.Matcher p texts (view c.args.schema.now)) c.of_draft.ensures.program) c.check_by.ensures.checked
