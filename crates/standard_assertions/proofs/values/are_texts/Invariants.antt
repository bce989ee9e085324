use Rattle.std.proofs.Common.{◌≡◌, drop}
use Rattle.serde_json.specs.View.{items_view}
use Rattle.standard_assertions.specs.Values.{are_texts}
use Rattle.standard_assertions.proofs.values.are_texts.Given as goal

abbrev pub invariant-loop-value : goal.invariant-loop-value
invariant-loop-value l = are_texts (items_view l.values) ≡ are_texts (items_view (drop l.value-index l.values))
