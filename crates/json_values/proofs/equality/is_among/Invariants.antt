use Rattle.std.proofs.Common.{◌≡◌, drop}
use Rattle.serde_json.specs.View.{items_view, view}
use Rattle.json_values.specs.Equality.{has_equal}
use Rattle.json_values.proofs.equality.is_among.Given as goal

abbrev pub invariant-loop-other : goal.invariant-loop-other
invariant-loop-other l = has_equal (view l.value) (items_view l.others) ≡ has_equal (view l.value) (items_view (drop l.other-index l.others))
