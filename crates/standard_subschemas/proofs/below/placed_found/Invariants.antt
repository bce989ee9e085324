use Rattle.std.proofs.Common.{◌≡◌, ◌++◌, drop, map}
use Rattle.schema_traits.specs.ResolverViews.{place_of, placed_of}
use Rattle.standard_subschemas.specs.FoundViews.{found_of, placed_at}
use Rattle.standard_subschemas.proofs.below.placed_found.Given as goal

abbrev pub invariant-loop-one : goal.invariant-loop-one
invariant-loop-one l = map (placed_at (place_of l.place)) (map found_of l.found)
    ≡ map placed_of l.placed.items ++ map (placed_at (place_of l.place)) (map found_of (drop l.one-index l.found))
