use Rattle.std.proofs.Common.{◌≡◌, ◌++◌, drop, map, string_bytes}
use Rattle.serde_json.specs.View.{view}
use Rattle.pattern_matcher.specs.SchemaPatterns.{patterns_of}
use Rattle.pattern_matcher.proofs.documents.patterns_of.Given as goal

abbrev pub invariant-loop-document : goal.invariant-loop-document
invariant-loop-document l = patterns_of (map (λ d. view d.now) l.documents) ≡ map string_bytes l.texts.items ++ patterns_of (map (λ d. view d.now) (drop l.document-index l.documents))
