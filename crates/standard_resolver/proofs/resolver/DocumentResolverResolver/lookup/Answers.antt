use Rattle.std.proofs.Common.{Ok, Result, ap, subst, ◌∙◌, ◌≡◌}
use Rattle.std.specs.Prelude.{MatchResult}
use Rattle.theory_definitions.specs.Instance.{Text}
use Rattle.theory_definitions.specs.Resolving.{Found}
use Rattle.schema_traits.specs.ResolverViews.{Refuses, found_of}
use Rattle.standard_resolver.specs.ResolverAnswers.{document_resolving}
use Rattle.standard_resolver.specs.ResolverDocuments.{HeldDocuments}
use Rattle.standard_resolver.specs.DocumentLookups.{looked_up}
use Rattle.standard_resolver.specs.DocumentResources.{Table}
use Rattle.standard_resolver.specs.DocumentStates.{Point}
use Rattle.standard_resolver.specs.DocumentViews.{held, point_of}
use Rattle.standard_resolver.proofs.resolver.DocumentResolverResolver.lookup.Goals as goal

pub returns : goal.returns
returns c =
    let s = point_of c.args.state.now in
    let reference = c.args.reference.now in
    let dynamic = c.args.dynamic in
    let leads = λ (b : HeldDocuments). (document_resolving b).lookup s reference dynamic in
    let same : looked_up c.self.inside.resources (held c.self.inside.documents) s reference dynamic ≡ leads c.args.self.now
    = ap (λ (t : Table). looked_up t (held c.self.inside.documents) s reference dynamic) c.self.invariant ∙ ap leads c.self.view_is in
    record {
      leads = subst (λ (r : Result (Found Point) Text). MatchResult c.looked_up.result (λ t. r ≡ Ok (found_of point_of t))
          (Refuses r)) same c.looked_up.ensures.leads;
    }
