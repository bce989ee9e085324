use Rattle.std.proofs.Common.{◌≡◌, length}
use Rattle.serde_json.specs.View.{items_view}
use Rattle.json_values.specs.Equality.{all_distinct}
use Rattle.json_values.proofs.equality.are_all_distinct_by_pairs.Given as goal

abbrev pub invariant-loop-first : goal.invariant-loop-first
invariant-loop-first l = all_distinct (items_view l.values) ≡ all_distinct (items_view l.rest)

abbrev pub decreases-loop-first : goal.decreases-loop-first
decreases-loop-first l = length l.rest
