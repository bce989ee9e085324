use Rattle.std.proofs.Common.{◌≡◌, ◌++◌, drop, map}
use Rattle.schema_drafts.specs.KeywordViews.{draft_of}
use Rattle.standard_resolver.specs.Dialects.{meta_of}
use Rattle.standard_resolver.specs.DialectViews.{meta_seen}
use Rattle.standard_resolver.specs.DocumentViews.{given_of, held}
use Rattle.standard_resolver.specs.ResolverDocuments.{document_of}
use Rattle.standard_resolver.proofs.dialects.metas_of_all.Given as goal

abbrev pub invariant-loop-other : goal.invariant-loop-other
invariant-loop-other l = map (meta_of (draft_of l.default)) (held l.documents) ≡ map meta_seen l.metas.items
    ++ map (meta_of (draft_of l.default)) (map document_of (map given_of (drop l.other-index l.other-items)))
