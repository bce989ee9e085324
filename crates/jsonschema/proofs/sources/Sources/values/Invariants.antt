use Rattle.std.proofs.Common.{◌≡◌, ◌++◌, drop, map}
use Rattle.serde_json.specs.View.{view}
use Rattle.standard_resolver.specs.DocumentViews.{given_of}
use Rattle.jsonschema.specs.Sources.{values_of}
use Rattle.jsonschema.proofs.sources.Sources.values.Given as goal

abbrev pub invariant-loop-document : goal.invariant-loop-document
invariant-loop-document l = values_of l.self ≡ map (λ v. view v.now) l.values.items ++ map (λ d. view d.value) (map given_of (drop l.document-index l.document-items))
