use Rattle.std.proofs.Common.{suc, take}
use Rattle.standard_resolver.specs.DocumentResources.{embedded_resources}
use Rattle.standard_resolver.specs.ResourcesGathered.{Adds}
use Rattle.standard_resolver.specs.DocumentViews.{held}
use Rattle.standard_resolver.proofs.resources.add_all_embedded.Given as goal

-- the resources of the documents so far, the root first
abbrev pub invariant-loop-i : goal.invariant-loop-i
invariant-loop-i l = Adds (embedded_resources l.reading 0 (take (suc l.i) (held l.documents))) l.fn.gathered l.gathered
