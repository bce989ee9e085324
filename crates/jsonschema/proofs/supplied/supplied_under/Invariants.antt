use Rattle.std.proofs.Common.{◌≡◌, drop, find, map}
use Rattle.standard_resolver.specs.DocumentViews.{given_of}
use Rattle.jsonschema.specs.Supplied.{is_under}
use Rattle.jsonschema.proofs.supplied.supplied_under.Given as goal

abbrev pub invariant-loop-document : goal.invariant-loop-document
invariant-loop-document l = find (is_under l.uri) (map given_of l.documents) ≡ find (is_under l.uri) (map given_of (drop l.document-index l.documents))
