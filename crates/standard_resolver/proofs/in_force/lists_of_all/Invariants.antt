use Rattle.std.proofs.Common.{suc, take}
use Rattle.standard_resolver.specs.DocumentViews.{held}
use Rattle.standard_resolver.specs.MetaVocabularies.{AreListedEach}
use Rattle.standard_resolver.proofs.in_force.lists_of_all.Given as goal

-- the documents so far, the root first
abbrev pub invariant-loop-other : goal.invariant-loop-other
invariant-loop-other l = AreListedEach l.reading (take (suc l.other-index) (held l.documents)) l.lists.items
