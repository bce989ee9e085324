use Rattle.std.proofs.Common.{◌≡◌}
use Rattle.serde_json.specs.View.{members_view}
use Rattle.standard_subschemas.specs.FoundSchemas.{any_names_schemas}
use Rattle.standard_subschemas.proofs.plain.any_names_schemas.Given as goal

abbrev pub invariant-loop-name : goal.invariant-loop-name
invariant-loop-name l = any_names_schemas l.rule (members_view l.members.entries) ≡ any_names_schemas l.rule (members_view l.name-iterator)
