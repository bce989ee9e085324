use Rattle.std.proofs.Common.{◌≡◌, drop}
use Rattle.serde_json.specs.View.{items_view}
use Rattle.test_rows.specs.Wanted.{are_in}
use Rattle.test_rows.proofs.comparing.are_in.Given as goal

abbrev pub invariant-loop-value : goal.invariant-loop-value
invariant-loop-value l =
    are_in (items_view l.values) (items_view l.all) ≡ are_in (items_view (drop l.value-index l.values)) (items_view l.all)
