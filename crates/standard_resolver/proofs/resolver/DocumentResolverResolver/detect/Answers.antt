use Rattle.std.proofs.Common.{ap, ◌∙◌}
use Rattle.serde_json.specs.View.{view}
use Rattle.schema_drafts.specs.KeywordViews.{draft_of}
use Rattle.standard_resolver.specs.Dialects.{Reading, detected}
use Rattle.standard_resolver.specs.DocumentResources.{Table}
use Rattle.standard_resolver.specs.ResolverAnswers.{table_of}
use Rattle.standard_resolver.proofs.resolver.DocumentResolverResolver.detect.Goals as goal

pub returns : goal.returns
returns c =
    let is = c.reading.ensures.reading ∙ ap (λ (t : Table). t.reading) (c.self.invariant ∙ ap table_of c.self.view_is) in
    record { draft = c.detected.ensures.draft ∙ ap (λ (r : Reading). detected r (draft_of c.args.draft) (view c.args.value.now)) is }
