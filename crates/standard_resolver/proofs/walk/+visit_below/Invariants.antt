use Rattle.std.proofs.Common.{ℕ, ◌≡◌, ◌≤◌, ◌++◌, drop, map}
use Rattle.std.specs.Prelude.{flat_map}
use Rattle.serde_json.specs.Data.{depth}
use Rattle.serde_json.specs.View.{view}
use Rattle.standard_subschemas.specs.FoundViews.{found_of, path_of}
use Rattle.standard_resolver.specs.DialectViews.{dialect_of}
use Rattle.standard_resolver.specs.DocumentViews.{visited_of}
use Rattle.standard_resolver.proofs.Walks.{from}
use Rattle.standard_resolver.proofs.walk.+visit_below.Given as goal

abbrev pub decreases-visit_below : goal.decreases-visit_below
decreases-visit_below l = depth (view l.schema.now)

abbrev pub invariant-loop-found : goal.invariant-loop-found
invariant-loop-found l = (l.way.items ≡ l.initial.way.items) × ((n : ℕ) → depth (view l.schema) ≤ n
    → map visited_of l.visited.items
    ++ flat_map (from l.reading l.everywhere n (l.path ++ flat_map path_of l.initial.way.items) l.base (dialect_of l.dialect))
    (map found_of (drop l.found-index l.found-items))
    ≡ map visited_of l.initial.visited.items
    ++ flat_map (from l.reading l.everywhere n (l.path ++ flat_map path_of l.initial.way.items) l.base (dialect_of l.dialect))
    (map found_of l.found-items))
