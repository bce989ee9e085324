use Rattle.std.proofs.Common.{◌≡◌, ◌++◌, drop}
use Rattle.serde_json.specs.View.{items_view}
use Rattle.standard_applicators.specs.DependencyValues.{text_wants}
use Rattle.standard_applicators.proofs.dependency_values.push_wants.Given as goal

abbrev pub invariant-loop-value : goal.invariant-loop-value
invariant-loop-value l = l.initial.wants.items ++ text_wants l.member (items_view l.values) ≡ l.wants.items ++ text_wants l.member (items_view (drop l.value-index l.values))
