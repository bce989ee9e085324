use Rattle.std.proofs.Common.{[], List, ap, arith, get_or, length, map, string_bytes, subst, sym, take, ◌++◌, ◌<◌, ◌≡◌, ◌∙◌, ◌∷◌}
use Rattle.std.specs.Prelude.{Option}
use Rattle.serde_json.specs.View.{view}
use Rattle.theory_definitions.specs.Drafts.{Vocabularies}
use Rattle.standard_resolver.specs.declared.documents as code
use Rattle.standard_resolver.specs.DocumentViews.{given_of}
use Rattle.standard_resolver.specs.MetaVocabularies.{AreListedEach}
use Rattle.standard_resolver.specs.ResolverDocuments.{Document, document_of}
use Rattle.standard_resolver.proofs.MetaLists.{listed_more}
use Rattle.standard_resolver.proofs.ResourceLists.{other_taken}
use Rattle.standard_resolver.proofs.in_force.lists_of_all.Goals as goal

pub loop-other-preserved : goal.loop-other-preserved
loop-other-preserved c =
    let documents = c.args.documents.now in
    let reading = c.args.reading.now in
    let items = documents.others.items in
    let same : c.deref-other-items.result.now ≡ items = c.deref-other-items.ensures.value in
    let first : Document = record { uri = string_bytes documents.uri; value = view documents.root.now } in
    let i = c.loop-other.other-index in
    let other = c.other-item.result in
    let within : i < length items = omega (arith, ap (length {A = code.Document.Document}) same) in
    let at : other ≡ get_or items i other = c.other-item.is ∙ ap (λ (xs : List code.Document.Document). get_or xs i other) same in
    let some = first ∷ take i (map document_of (map given_of items)) in
    let vs = c.in_ok-list_of-2.field-0 in
    let d = document_of (given_of other) in
    let more = listed_more reading some c.loop-other.lists.items d vs c.loop-other.invariant c.in_ok-list_of-2.ensures.listed in
    subst (λ (ds : List Document). AreListedEach reading ds c.push-in-loop-other.new.self.items)
    (sym (ap (λ (ds : List Document). first ∷ ds) (other_taken given_of document_of items i other within at)))
    (subst (λ (ls : List (Option Vocabularies)). AreListedEach reading (some ++ d ∷ []) ls) (sym c.in_ok-push-2.ensures.items) more)
