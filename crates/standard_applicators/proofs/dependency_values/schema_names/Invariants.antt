use Rattle.std.proofs.Common.{◌≡◌, ◌++◌, map, string_bytes}
use Rattle.serde_json.specs.View.{members_view}
use Rattle.standard_applicators.specs.DependencyValues.{schema_names}
use Rattle.standard_applicators.proofs.dependency_values.schema_names.Given as goal

abbrev pub invariant-loop-name : goal.invariant-loop-name
invariant-loop-name l = schema_names (members_view l.members.entries) ≡ map string_bytes l.names.items ++ schema_names (members_view l.name-iterator)
