use Rattle.std.proofs.Common.{◌≡◌, drop, map}
use Rattle.std.specs.Prelude.{string_bytes}
use Rattle.serde_json.specs.View.{members_view}
use Rattle.theory_definitions.specs.Units.{without}
use Rattle.schema_compiler.proofs.compiler.annotations.without.Given as goal

abbrev pub invariant-loop-name : goal.invariant-loop-name
invariant-loop-name l = without (map string_bytes (drop l.name-index l.names)) (members_view l.left.entries) ≡ without (map string_bytes l.names) (members_view l.initial.left.entries)
