use Rattle.std.proofs.Common.{Bor, Ok, Option, Result, ap, option_map, subst, ◌∙◌, ◌≡◌}
use Rattle.std.specs.Prelude.{MatchResult}
use Rattle.serde_json.specs.Data.{Data}
use Rattle.serde_json.specs.View.{view}
use Rattle.serde_json.specs.declared.value.Value.{Value}
use Rattle.theory_definitions.specs.Instance.{Text}
use Rattle.schema_drafts.specs.KeywordViews.{draft_of}
use Rattle.schema_traits.specs.ResolverViews.{Refuses, place_of}
use Rattle.standard_resolver.specs.ResolverAnswers.{document_resolving, table_of}
use Rattle.standard_resolver.specs.ResolverDocuments.{HeldDocuments, documents_of}
use Rattle.standard_resolver.specs.DocumentResources.{Table}
use Rattle.standard_resolver.specs.DocumentStates.{Point, entered}
use Rattle.standard_resolver.specs.DocumentViews.{held, point_of}
use Rattle.standard_resolver.proofs.resolver.DocumentResolverResolver.in_subresource_read.Goals as goal

pub returns : goal.returns
returns c =
    let s = point_of c.args.state.now in
    let draft = draft_of c.args.draft in
    let p = place_of c.args.place.now in
    let o : Option Data = option_map (λ (b : Bor Value). view b.now) c.args.value in
    let r = c.args.self.now in
    let inside = λ (b : HeldDocuments) (v : Option Data). entered (table_of b) (documents_of b) s draft p v in
    record {
      inside = λ read.
          let same : entered c.self.inside.resources (held c.self.inside.documents) s draft p o
          ≡ (document_resolving r).in_subresource s draft p
          = ap (λ (t : Table). entered t (held c.self.inside.documents) s draft p o) c.self.invariant
          ∙ ap (λ (b : HeldDocuments). inside b o) c.self.view_is ∙ ap (inside r) read in
          subst (λ (q : Result Point Text). MatchResult c.entered.result (λ t. q ≡ Ok (point_of t)) (Refuses q)) same
          c.entered.ensures.entered;
    }
