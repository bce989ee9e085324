use Rattle.std.proofs.Common.{Bor, List, None, Option, Some, ap, option_and_then, option_map, subst, sym, ◌≡◌, ◌∙◌}
use Rattle.std.specs.Prelude.{unwrap_or}
use Rattle.theory_definitions.specs.Drafts.{Vocabularies}
use Rattle.schema_drafts.specs.KeywordViews.{draft_of}
use Rattle.schema_traits.specs.Showing.{Yields}
use Rattle.standard_resolver.specs.InForce.{listed_for}
use Rattle.standard_resolver.specs.DocumentResources.{Table}
use Rattle.standard_resolver.specs.DocumentStates.{resource_under}
use Rattle.standard_resolver.specs.DocumentViews.{point_of}
use Rattle.standard_resolver.specs.ResolverAnswers.{table_of}
use Rattle.standard_resolver.specs.ResolverDocuments.{HeldDocuments, vocabularies_in}
use Rattle.standard_resolver.proofs.resolver.DocumentResolverResolver.find_vocabularies.Goals as goal

pub returns-in-Some : goal.returns-in-Some
returns-in-Some c =
    let r = c.args.self.now in
    let base = (point_of c.args.state.now).base in
    let d = draft_of c.args.draft in
    let same : c.self.inside.resources ≡ table_of r = c.self.invariant ∙ ap table_of c.self.view_is in
    let lists : c.as_slice.result.now ≡ r.listed = c.as_slice.ensures.value ∙ ap (λ (b : HeldDocuments). b.listed) c.self.view_is in
    let at = λ (ls : List (Option Vocabularies)) (t : Table). option_and_then (listed_for ls t.reading d) (resource_under t base) in
    let found : at r.listed (table_of r) ≡ Some c.in-Some.listed.now = ap (at r.listed) (sym same)
    ∙ ap (λ (ls : List (Option Vocabularies)). at ls c.self.inside.resources) (sym lists) ∙ sym c.listed_here.ensures.listed
    ∙ ap (option_map (λ (v : Bor Vocabularies). v.now)) c.in-Some.is in
    record {
      vocabularies = subst (λ (o : Option Vocabularies). Yields c.cloned.result (unwrap_or o (vocabularies_in d r.vocabularies))) (sym found)
          c.cloned.ensures.same;
    }

pub returns-in-None : goal.returns-in-None
returns-in-None c =
    let r = c.args.self.now in
    let base = (point_of c.args.state.now).base in
    let d = draft_of c.args.draft in
    let same : c.self.inside.resources ≡ table_of r = c.self.invariant ∙ ap table_of c.self.view_is in
    let lists : c.as_slice.result.now ≡ r.listed = c.as_slice.ensures.value ∙ ap (λ (b : HeldDocuments). b.listed) c.self.view_is in
    let at = λ (ls : List (Option Vocabularies)) (t : Table). option_and_then (listed_for ls t.reading d) (resource_under t base) in
    let found : at r.listed (table_of r) ≡ None = ap (at r.listed) (sym same)
    ∙ ap (λ (ls : List (Option Vocabularies)). at ls c.self.inside.resources) (sym lists) ∙ sym c.listed_here.ensures.listed
    ∙ ap (option_map (λ (v : Bor Vocabularies). v.now)) c.in-None.is in
    let sets = ap (λ (b : HeldDocuments). vocabularies_in d b.vocabularies) c.self.view_is in
    record {
      vocabularies = subst (λ (vs : Vocabularies). Yields c.in_draft.result vs)
          (sets ∙ sym (ap (λ (o : Option Vocabularies). unwrap_or o (vocabularies_in d r.vocabularies)) found))
          c.in_draft.ensures.vocabularies;
    }
