use Rattle.std.proofs.Common.{Bor, List, Option, Some, ap, arith, map, option_map, suc, sym, ◌-◌, ◌≡◌, ◌∙◌, ◌∷◌}
use Rattle.std.specs.Prelude.{slice_get, string_bytes}
use Rattle.serde_json.specs.View.{view}
use Rattle.standard_resolver.specs.declared.documents.Document.{Document}
use Rattle.standard_resolver.specs.ResolverDocuments as spec
use Rattle.standard_resolver.specs.ResolverDocuments.{document_of}
use Rattle.standard_resolver.specs.DocumentViews.{given_of}
use Rattle.standard_resolver.proofs.DocumentLists.{read_other}
use Rattle.standard_resolver.proofs.documents.Documents.uri_of.Goals as goal

pub returns-in-Some : goal.returns-in-Some
returns-in-Some c =
    let self = c.args.self.now in
    let n = c.args.number in
    let first : spec.Document = record { uri = string_bytes self.uri; value = view self.root.now } in
    let later : n ≡ suc (n - 1) = omega arith in
    let there = ap (λ (xs : List Document). slice_get (first ∷ map document_of (map given_of xs)) n) (sym c.deref.ensures.value)
    ∙ read_other given_of document_of first c.deref.result.now n (n - 1) c.get.result later c.get.ensures.lookup
    ∙ ap (λ (o : Option (Bor Document)). option_map document_of (option_map given_of (option_map (λ (x : Bor Document). x.now) o)))
    c.in-Some.is in
    record { uri = ap (λ t. Some t) c.as_str-in-Some.ensures.value ∙ sym (ap (option_map (λ (d : spec.Document). d.uri)) there) }

pub returns-in-None : goal.returns-in-None
returns-in-None c =
    let self = c.args.self.now in
    let n = c.args.number in
    let first : spec.Document = record { uri = string_bytes self.uri; value = view self.root.now } in
    let later : n ≡ suc (n - 1) = omega arith in
    let there = ap (λ (xs : List Document). slice_get (first ∷ map document_of (map given_of xs)) n) (sym c.deref.ensures.value)
    ∙ read_other given_of document_of first c.deref.result.now n (n - 1) c.get.result later c.get.ensures.lookup
    ∙ ap (λ (o : Option (Bor Document)). option_map document_of (option_map given_of (option_map (λ (x : Bor Document). x.now) o)))
    c.in-None.is in
    record { uri = sym (ap (option_map (λ (d : spec.Document). d.uri)) there) }
