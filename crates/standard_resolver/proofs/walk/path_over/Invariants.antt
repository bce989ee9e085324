use Rattle.std.proofs.Common.{◌≡◌, ◌++◌, drop}
use Rattle.std.specs.Prelude.{flat_map}
use Rattle.standard_subschemas.specs.FoundViews.{path_of}
use Rattle.standard_resolver.proofs.walk.path_over.Given as goal

abbrev pub invariant-loop-found : goal.invariant-loop-found
invariant-loop-found l = l.path ++ flat_map path_of l.way ≡ l.over ++ flat_map path_of (drop l.found-index l.way)
