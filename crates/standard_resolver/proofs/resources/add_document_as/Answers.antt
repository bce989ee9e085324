use Rattle.std.proofs.Common.{[], ap, string_bytes, subst, ◌∙◌, ◌≡◌, ◌∷◌}
use Rattle.serde_json.specs.View.{view}
use Rattle.theory_definitions.specs.Drafts.{Draft}
use Rattle.theory_definitions.specs.Instance.{Text}
use Rattle.standard_subschemas.specs.declared.rules.Rule.{Rule}
use Rattle.standard_resolver.specs.ResolverDocuments.{Document}
use Rattle.standard_resolver.specs.DocumentResources.{Resource, Visited, base_in, resource_of, root_visited}
use Rattle.standard_resolver.specs.ResourcesGathered.{Adds}
use Rattle.standard_subschemas.specs.DocumentUris.{root_base}
use Rattle.standard_resolver.specs.DocumentViews.{visited_of}
use Rattle.standard_resolver.proofs.resources.add_document_as.Goals as goal

pub returns : goal.returns
returns c =
    let reading = c.args.reading.now in
    let d : Document = record { uri = c.args.uri.now; value = view c.args.value.now } in
    let n = c.args.document in
    let own = string_bytes c.args.own in
    let root = c.in_ok-root.root in
    let is : visited_of root ≡ root_visited reading n d = c.in_ok-root.ensures.root in
    let at : (visited_of root).dialect.draft ≡ (root_visited reading n d).dialect.draft = ap (λ (v : Visited). v.dialect.draft) is in
    let inside : string_bytes c.in_ok-base.base ≡ base_in reading n d = c.in_ok-base.ensures.base
    ∙ ap (λ (rule : Rule). root_base rule d.uri (visited_of root).dialect.draft d.value) c.rule.ensures.rule
    ∙ ap (λ (d' : Draft). root_base reading.rule d.uri d' d.value) at in
    let same : resource_of reading own (string_bytes c.in_ok-base.base) n (visited_of root)
    ≡ resource_of reading own (base_in reading n d) n (root_visited reading n d)
    = ap (λ (t : Text). resource_of reading own t n (visited_of root)) inside
    ∙ ap (λ (v : Visited). resource_of reading own (base_in reading n d) n v) is in
    record {
      added = subst (λ (r : Resource). Adds (r ∷ []) c.args.gathered.now c.add_under.new.gathered) same c.in_ok-add_under.ensures.added;
    }
