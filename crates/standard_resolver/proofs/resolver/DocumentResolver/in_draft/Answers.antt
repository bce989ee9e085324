use Rattle.std.proofs.Common.{ap, map, option_map, string_bytes, ◌∙◌, ◌∷◌}
use Rattle.serde_json.specs.View.{view}
use Rattle.schema_drafts.specs.KeywordViews.{draft_of}
use Rattle.standard_resolver.specs.Dialects.{Reading, reading_of}
use Rattle.standard_resolver.specs.DocumentResources.{table_for}
use Rattle.standard_resolver.specs.ResolverDocuments.{Document, document_of}
use Rattle.standard_resolver.specs.DocumentViews.{given_of, held}
use Rattle.standard_resolver.proofs.ResourceLists.{root_found}
use Rattle.standard_resolver.proofs.resolver.DocumentResolver.in_draft.Goals as goal

pub returns-clause-root : goal.returns-clause-root
returns-clause-root c =
    let first : Document = record { uri = string_bytes c.args.root.uri; value = view c.args.root.value.now } in
    let others = map document_of (map given_of c.args.others.items) in
    root_found (reading_of c.args.rule (option_map draft_of c.args.root_draft) (draft_of c.args.default_draft) (first ∷ others)) first others

pub invariant_of-result : goal.invariant_of-result
invariant_of-result c =
    let documents = held (record { uri = c.args.root.uri; root = c.args.root.value; others = c.args.others }) in
    c.in_ok-resources.ensures.resources ∙ ap (λ (reading : Reading). table_for reading documents) c.in_ok-reading.ensures.reading
