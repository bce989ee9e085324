use Rattle.std.proofs.Common.{rules}
use Rattle.serde_json.specs.View.{view}
use Rattle.schema_drafts.specs.KeywordViews.{draft_of}
use Rattle.schema_keys.proofs.CheckedDocuments.{error_kept}
use Rattle.schema_keys.proofs.check.SchemaCheck.refusal.Goals as goal

pub returns-in_ok-to_owned-in-Some : goal.returns-in_ok-to_owned-in-Some
returns-in_ok-to_owned-in-Some g c = record {
  refusal = error_kept (g.V.MetaValidators.checked c.args.self.now.metas.now) (draft_of c.args.draft) (view c.args.document.now) c.in_ok-error.field-0 c.in-Some.error c.in_ok-to_owned-in-Some.field-0
      c.in-Some.is c.in_ok-error.ensures.checked c.in_ok-error.ensures.borrows (search rules);
}
