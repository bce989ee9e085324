use Rattle.std.proofs.Common.{◌≡◌, drop}
use Rattle.serde_json.specs.View.{items_view, view}
use Rattle.test_rows.specs.Wanted.{is_in}
use Rattle.test_rows.proofs.comparing.is_in.Given as goal

abbrev pub invariant-loop-other : goal.invariant-loop-other
invariant-loop-other l = is_in (view l.value) (items_view l.all) ≡ is_in (view l.value) (items_view (drop l.other-index l.all))
