use Rattle.std.proofs.Common.{◌≡◌}
use Rattle.serde_json.specs.View.{members_view}
use Rattle.standard_applicators.specs.DependencyValues.{are_lists_of_texts}
use Rattle.standard_applicators.proofs.dependency_values.are_lists_of_texts.Given as goal

abbrev pub invariant-loop-value : goal.invariant-loop-value
invariant-loop-value l = are_lists_of_texts (members_view l.value-iterator) ≡ are_lists_of_texts (members_view l.members.entries)
