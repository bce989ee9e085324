use Rattle.std.proofs.Common.{◌≡◌, ◌++◌, drop, map}
use Rattle.standard_resolver.specs.DocumentViews as documents
use Rattle.standard_meta.specs.MetaDocuments.{given_of}
use Rattle.standard_meta.proofs.meta.others_of.Given as goal

abbrev pub invariant-loop-document : goal.invariant-loop-document
invariant-loop-document l = map given_of l.others ≡ map documents.given_of l.documents.items ++ map given_of (drop l.document-index l.others)
