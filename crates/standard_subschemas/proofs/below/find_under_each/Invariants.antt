use Rattle.std.proofs.Common.{◌≡◌, ◌++◌, drop, map}
use Rattle.std.specs.Prelude.{flat_map}
use Rattle.serde_json.specs.Data.{object}
use Rattle.serde_json.specs.Find.{get}
use Rattle.serde_json.specs.View.{members_view}
use Rattle.standard_subschemas.specs.FoundSchemas.{found_at}
use Rattle.standard_subschemas.specs.FoundViews.{below, found_of}
use Rattle.standard_subschemas.proofs.below.find_under_each.Given as goal

abbrev pub invariant-loop-keyword : goal.invariant-loop-keyword
invariant-loop-keyword l =
    let schema = object (members_view l.members.entries) in
    map found_of l.initial.found.items
    ++ map (found_at schema) (flat_map (λ k. below l.lying k (get k schema)) (map (λ k. k.now) l.keywords))
    ≡ map found_of l.found.items
    ++ map (found_at schema) (flat_map (λ k. below l.lying k (get k schema)) (map (λ k. k.now) (drop l.keyword-index l.keywords)))
