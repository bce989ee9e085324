use Rattle.std.proofs.Common.{◌≡◌, ◌++◌, map, string_bytes}
use Rattle.serde_json.specs.View.{members_view}
use Rattle.keyword_makers.specs.Members.{names_of}
use Rattle.keyword_makers.proofs.members.names_of.Given as goal

abbrev pub invariant-loop-name : goal.invariant-loop-name
invariant-loop-name l = names_of (members_view l.members.entries) ≡ map string_bytes l.names.items ++ names_of (members_view l.name-iterator)
