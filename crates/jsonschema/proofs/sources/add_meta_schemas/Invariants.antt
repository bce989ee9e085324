use Rattle.std.proofs.Common.{◌≡◌, ◌++◌, drop, map}
use Rattle.standard_resolver.specs.DocumentViews.{given_of}
use Rattle.standard_meta.specs.MetaDocuments as meta
use Rattle.jsonschema.proofs.sources.add_meta_schemas.Given as goal

abbrev pub invariant-loop-meta : goal.invariant-loop-meta
invariant-loop-meta l = map given_of l.initial.documents.items ++ map meta.given_of l.meta-items
    ≡ map given_of l.documents.items ++ map meta.given_of (drop l.meta-index l.meta-items)
