use Rattle.std.proofs.Common.{◌≡◌, ◌++◌}
use Rattle.serde_json.specs.View.{members_view}
use Rattle.standard_applicators.specs.DependencyValues.{wants_of}
use Rattle.standard_applicators.proofs.dependency_values.wants_of.Given as goal

abbrev pub invariant-loop-name : goal.invariant-loop-name
invariant-loop-name l = wants_of (members_view l.members.entries) ≡ l.wants.items ++ wants_of (members_view l.name-iterator)
