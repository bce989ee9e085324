use Rattle.std.proofs.Common.{[], string_bytes, subst, ◌∙◌, ◌≡◌, ◌∷◌}
use Rattle.serde_json.specs.View.{view}
use Rattle.theory_definitions.specs.Instance.{Text}
use Rattle.standard_subschemas.specs.SubschemaRules.{without_fragment}
use Rattle.standard_resolver.specs.ResolverDocuments.{Document}
use Rattle.standard_resolver.specs.DocumentResources.{base_in, document_resource, normal_resource, resource_of, root_visited}
use Rattle.standard_resolver.specs.ResourcesGathered.{Adds}
use Rattle.standard_resolver.proofs.ResourceLists.{adds_both}
use Rattle.standard_resolver.proofs.resources.add_document.Goals as goal

pub returns : goal.returns
returns c =
    let reading = c.args.reading.now in
    let d : Document = record { uri = c.args.uri.now; value = view c.args.value.now } in
    let n = c.args.document in
    let own : string_bytes c.in_ok-own.own ≡ without_fragment d.uri = c.in_ok-own.ensures.ok ∙ c.without_fragment.ensures.before in
    let first : Adds (document_resource reading n d ∷ []) c.args.gathered.now c.add_document_as.new.gathered =
    subst (λ (t : Text). Adds (resource_of reading t (base_in reading n d) n (root_visited reading n d) ∷ []) c.args.gathered.now
    c.add_document_as.new.gathered) own c.in_ok-add_document_as.ensures.added in
    record {
      added = adds_both (document_resource reading n d ∷ []) (normal_resource reading n d) c.args.gathered.now
          c.add_document_as.new.gathered c.add_normal.new.gathered first c.in_ok-add_normal.ensures.added;
    }
