use Rattle.std.proofs.Common.{◌≡◌, ◌++◌, drop}
use Rattle.serde_json.specs.View.{items_view}
use Rattle.keyword_makers.specs.Making.{items_from}
use Rattle.keyword_makers.proofs.paths.items_below.Given as goal

abbrev pub invariant-loop-index : goal.invariant-loop-index
invariant-loop-index l = items_from l.keyword 0 (items_view l.items) ≡ l.paths.items ++ items_from l.keyword l.index (items_view (drop l.index l.items))
