use Rattle.std.proofs.Common.{◌≡◌, drop}
use Rattle.standard_resolver.specs.DocumentLookups.{first_dynamic}
use Rattle.standard_resolver.specs.DocumentViews.{point_of}
use Rattle.standard_resolver.proofs.references.first_dynamic.Given as goal

abbrev pub invariant-loop-number : goal.invariant-loop-number
invariant-loop-number l = first_dynamic l.resources (point_of l.state) l.name (point_of l.state).entered
    ≡ first_dynamic l.resources (point_of l.state) l.name (drop l.number-index (point_of l.state).entered)
