use Rattle.std.proofs.Common.{Result, ap, subst, ◌∙◌}
use Rattle.serde_json.specs.View.{view}
use Rattle.theory_definitions.specs.Drafts as spec
use Rattle.theory_definitions.specs.Instance.{Text}
use Rattle.schema_drafts.specs.KeywordViews.{draft_of}
use Rattle.schema_traits.specs.Showing.{Agrees}
use Rattle.standard_resolver.specs.Dialects.{Reading, draft_declared}
use Rattle.standard_resolver.specs.DocumentResources.{Table}
use Rattle.standard_resolver.specs.ResolverAnswers.{reading_in, table_of}
use Rattle.standard_resolver.proofs.DeclaredDrafts.{refuses_value}
use Rattle.standard_resolver.proofs.resolver.DocumentResolverResolver.draft_for.Goals as goal

pub returns : goal.returns
returns c =
    let v = view c.args.value.now in
    let is = c.reading.ensures.reading ∙ ap (λ (t : Table). t.reading) (c.self.invariant ∙ ap table_of c.self.view_is) in
    let same = ap (λ (r : Reading). draft_declared r v) is in
    record {
      draft = refuses_value draft_of v (draft_declared (reading_in c.args.self.now) v) c.draft_declared.result
          (subst (λ (q : Result spec.Draft Text). Agrees draft_of c.draft_declared.result q) same c.draft_declared.ensures.draft);
    }
