use Rattle.std.proofs.Common.{Result, ap, subst, ◌∙◌}
use Rattle.theory_definitions.specs.Instance.{Text}
use Rattle.theory_definitions.specs.Resolving.{Found}
use Rattle.schema_traits.specs.ResolverViews.{found_of}
use Rattle.schema_traits.specs.Showing.{Agrees}
use Rattle.standard_resolver.specs.ResolverAnswers.{table_of}
use Rattle.standard_resolver.specs.DocumentLookups.{looked_up_recursive}
use Rattle.standard_resolver.specs.DocumentResources.{Table}
use Rattle.standard_resolver.specs.DocumentStates.{Point}
use Rattle.standard_resolver.specs.DocumentViews.{point_of}
use Rattle.standard_resolver.proofs.resolver.DocumentResolverResolver.lookup_recursive_ref.Goals as goal

pub returns : goal.returns
returns c =
    let same = ap (λ (t : Table). looked_up_recursive t (point_of c.args.state.now)) (c.self.invariant ∙ ap table_of c.self.view_is) in
    record {
      leads = subst (λ (r : Result (Found Point) Text). Agrees (found_of point_of) c.looked_up_recursive.result r) same
          c.looked_up_recursive.ensures.leads;
    }
