use Rattle.std.proofs.Common.{◌≡◌, ◌++◌, drop, map}
use Rattle.theory_definitions.specs.Drafts.{at_path}
use Rattle.schema_traits.specs.ResolverViews.{place_of}
use Rattle.standard_subschemas.specs.FoundViews.{path_of}
use Rattle.standard_subschemas.proofs.below.places_found.Given as goal

abbrev pub invariant-loop-one : goal.invariant-loop-one
invariant-loop-one l = map (at_path (place_of l.place)) (map path_of l.found)
    ≡ map place_of l.places.items ++ map (at_path (place_of l.place)) (map path_of (drop l.one-index l.found))
