use Rattle.std.proofs.Common.{◌≡◌}
use Rattle.serde_json.specs.View.{members_view}
use Rattle.standard_subschemas.specs.PlainSchemas.{any_speaks}
use Rattle.standard_subschemas.proofs.plain.any_speaks.Given as goal

abbrev pub invariant-loop-name : goal.invariant-loop-name
invariant-loop-name l = any_speaks l.rule (members_view l.members.entries) ≡ any_speaks l.rule (members_view l.name-iterator)
