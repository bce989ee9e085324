use Rattle.std.proofs.Common.{◌≡◌, drop}
use Rattle.std.specs.Slice.Iter.{iter_rest}
use Rattle.serde_json.specs.View.{items_view}
use Rattle.test_rows.specs.Wanted.{begins_with}
use Rattle.test_rows.proofs.comparing.begins_with.Given as goal

abbrev pub invariant-loop-name : goal.invariant-loop-name
invariant-loop-name l =
    begins_with (items_view l.columns) (items_view l.names)
    ≡ begins_with (items_view (iter_rest l.others)) (items_view (drop l.name-index l.names))
