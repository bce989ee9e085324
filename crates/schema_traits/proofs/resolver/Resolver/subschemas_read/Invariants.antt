use Rattle.std.proofs.Common.{◌≡◌, map}
use Rattle.schema_traits.specs.ResolverViews.{place_of, placed_in, placed_of}
use Rattle.schema_traits.proofs.resolver.Resolver.subschemas_read.Given as goal

abbrev pub invariant-loop-below : goal.invariant-loop-below
invariant-loop-below g l = map placed_of l.placed.items ≡ map (placed_in (g.Self.Resolver.resolving l.fn.self)) (map place_of l.yielded)
