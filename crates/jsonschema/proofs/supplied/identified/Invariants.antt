use Rattle.std.proofs.Common.{◌≡◌, drop, find, map}
use Rattle.schema_drafts.specs.KeywordViews.{draft_of}
use Rattle.standard_resolver.specs.DocumentViews.{given_of}
use Rattle.jsonschema.specs.Supplied.{identifies}
use Rattle.jsonschema.proofs.supplied.identified.Given as goal

abbrev pub invariant-loop-document : goal.invariant-loop-document
invariant-loop-document l = find (identifies (draft_of l.default) l.uri) (map given_of l.documents)
    ≡ find (identifies (draft_of l.default) l.uri) (map given_of (drop l.document-index l.documents))
