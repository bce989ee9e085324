use Rattle.std.proofs.Common.{List, ap, arith, get_or, length, string_bytes, subst, ◌+◌, ◌<◌, ◌≡◌, ◌≤◌, ◌∙◌}
use Rattle.serde_json.specs.View.{view}
use Rattle.theory_definitions.specs.Instance.{Text}
use Rattle.standard_resolver.specs.declared.documents as code
use Rattle.standard_resolver.specs.ResolverDocuments.{Document, document_of}
use Rattle.standard_resolver.specs.DocumentResources.{embedded}
use Rattle.standard_resolver.specs.ResourcesGathered.{Adds}
use Rattle.standard_resolver.specs.DocumentViews.{given_of}
use Rattle.standard_resolver.proofs.ResourceLists.{all_embedded, next_embedded, only_first}
use Rattle.standard_resolver.proofs.resources.add_all_embedded.Goals as goal

pub loop-i-init : goal.loop-i-init
loop-i-init c =
    let documents = c.args.documents.now in
    let first : Document = record { uri = string_bytes documents.uri; value = view documents.root.now } in
    let added = subst (λ (t : Text). Adds (embedded c.args.reading.now 0 (record { uri = t; value = first.value }))
    c.args.gathered.now c.add_embedded.new.gathered) c.as_str-uri.ensures.value c.in_ok-add_embedded.ensures.added in
    only_first (embedded c.args.reading.now 0 first) c.args.gathered.now c.add_embedded.new.gathered added

pub loop-i-preserved : goal.loop-i-preserved
loop-i-preserved c =
    let documents = c.args.documents.now in
    let items = documents.others.items in
    let same : c.deref-other-items.result.now ≡ items = c.deref-other-items.ensures.value in
    let first : Document = record { uri = string_bytes documents.uri; value = view documents.root.now } in
    let reading = c.args.reading.now in
    let i = c.loop-i.i in
    let other = c.other-item.result in
    let within : i < length items = omega (arith, ap (length {A = code.Document.Document}) same) in
    let at : other ≡ get_or items i other = c.other-item.is ∙ ap (λ (xs : List code.Document.Document). get_or xs i other) same in
    let uri = c.as_str-uri-in-loop-i.ensures.value in
    let added = subst (λ (t : Text). Adds (embedded reading (i + 1) (record { uri = t; value = (document_of (given_of other)).value }))
    c.loop-i.gathered c.add_embedded-in-loop-i.new.gathered) uri c.in_ok-add_embedded-2.ensures.added in
    next_embedded reading first given_of document_of items i c.args.gathered.now c.loop-i.gathered c.add_embedded-in-loop-i.new.gathered
    other within at c.loop-i.invariant added

pub returns : goal.returns
returns c =
    let documents = c.args.documents.now in
    let items = documents.others.items in
    let first : Document = record { uri = string_bytes documents.uri; value = view documents.root.now } in
    let done : length items ≤ c.loop-i.i = omega (arith, ap (length {A = code.Document.Document}) c.deref-other-items.ensures.value) in
    record {
      added = all_embedded c.args.reading.now first given_of document_of items c.loop-i.i c.args.gathered.now
          c.loop-i.gathered done c.loop-i.invariant;
    }
