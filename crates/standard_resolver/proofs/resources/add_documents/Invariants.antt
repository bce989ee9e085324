use Rattle.std.proofs.Common.{suc, take}
use Rattle.standard_resolver.specs.DocumentResources.{document_resources}
use Rattle.standard_resolver.specs.ResourcesGathered.{Adds}
use Rattle.standard_resolver.specs.DocumentViews.{held}
use Rattle.standard_resolver.proofs.resources.add_documents.Given as goal

-- the documents so far, the root first
abbrev pub invariant-loop-i : goal.invariant-loop-i
invariant-loop-i l = Adds (document_resources l.reading 0 (take (suc l.i) (held l.documents))) l.fn.gathered l.gathered
