use Rattle.std.proofs.Common.{Bor, Some, ap, option_map, refl, subst, sym, ◌∙◌, ◌≡◌}
use Rattle.theory_definitions.specs.Drafts.{SchemaPlace}
use Rattle.schema_traits.specs.ResolverViews.{place_of}
use Rattle.schema_traits.specs.Showing.{Shows}
use Rattle.standard_resolver.specs.ResolverAnswers.{table_of}
use Rattle.standard_resolver.specs.DocumentResourceViews.{resource_of}
use Rattle.standard_resolver.specs.DocumentResources.{Resource, Table, place_of_resource}
use Rattle.standard_resolver.specs.DocumentStates.{Point, resource_under, root_of}
use Rattle.standard_resolver.specs.DocumentViews.{point_of}
use Rattle.standard_resolver.specs.declared.resources.Resource as code
use Rattle.standard_resolver.proofs.resolver.DocumentResolverResolver.resource_root.Goals as goal

root_under : (table : Table) (s : Point) (x : Resource) → resource_under table s.base ≡ Some x → root_of table s ≡ place_of_resource x
root_under table s x found = rw (found, root_of) refl

pub returns-in-Some : goal.returns-in-Some
returns-in-Some c =
    let state = point_of c.args.state.now in
    let same = c.self.invariant ∙ ap table_of c.self.view_is in
    let found : resource_under (table_of c.args.self.now) state.base ≡ Some (resource_of c.in-Some.resource.now) =
    ap (λ (t : Table). resource_under t state.base) (sym same)
    ∙ ap (resource_under c.self.inside.resources) (sym c.as_str.ensures.value)
    ∙ sym c.under.ensures.resource
    ∙ ap (option_map (λ (r : Bor code.Resource). resource_of r.now)) c.in-Some.is in
    record {
      root = subst (λ (p : SchemaPlace). Shows place_of c.place.result p) (sym (root_under (table_of c.args.self.now) state (resource_of c.in-Some.resource.now) found)) c.place.ensures.place;
    }
