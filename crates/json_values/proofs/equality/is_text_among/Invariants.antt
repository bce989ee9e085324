use Rattle.std.proofs.Common.{◌≡◌, drop}
use Rattle.serde_json.specs.Data.{string}
use Rattle.serde_json.specs.View.{items_view}
use Rattle.json_values.specs.Equality.{has_equal}
use Rattle.json_values.proofs.equality.is_text_among.Given as goal

abbrev pub invariant-loop-value : goal.invariant-loop-value
invariant-loop-value l = has_equal (string l.text) (items_view l.values) ≡ has_equal (string l.text) (items_view (drop l.value-index l.values))
