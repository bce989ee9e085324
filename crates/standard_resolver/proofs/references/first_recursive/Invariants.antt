use Rattle.std.proofs.Common.{◌≡◌, drop}
use Rattle.standard_resolver.specs.DocumentLookups.{first_recursive}
use Rattle.standard_resolver.specs.DocumentViews.{point_of}
use Rattle.standard_resolver.proofs.references.first_recursive.Given as goal

abbrev pub invariant-loop-number : goal.invariant-loop-number
invariant-loop-number l = first_recursive l.resources (point_of l.state) (point_of l.state).entered
    ≡ first_recursive l.resources (point_of l.state) (drop l.number-index (point_of l.state).entered)
