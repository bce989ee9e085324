use Rattle.std.proofs.Common.{◌≡◌, ◌++◌, drop, map}
use Rattle.standard_resolver.specs.DocumentViews.{given_of}
use Rattle.jsonschema.proofs.supplied.copied_each.Given as goal

abbrev pub invariant-loop-document : goal.invariant-loop-document
invariant-loop-document l = map given_of l.documents ≡ map given_of l.copies.items ++ map given_of (drop l.document-index l.documents)
