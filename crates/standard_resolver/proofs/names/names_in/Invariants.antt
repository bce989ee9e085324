use Rattle.std.proofs.Common.{◌≡◌, ◌++◌, drop, map}
use Rattle.std.specs.Prelude.{flat_map}
use Rattle.standard_resolver.specs.DocumentResources.{names_at, names_in}
use Rattle.standard_resolver.specs.DocumentNameViews.{name_of}
use Rattle.standard_resolver.specs.DocumentViews.{visited_of}
use Rattle.standard_resolver.proofs.names.names_in.Given as goal

abbrev pub invariant-loop-visited : goal.invariant-loop-visited
invariant-loop-visited l = names_in l.reading (visited_of l.root) ≡ map name_of l.names.items
    ++ flat_map (names_at l.reading.rule) (map visited_of (drop l.visited-index l.visited-items))
