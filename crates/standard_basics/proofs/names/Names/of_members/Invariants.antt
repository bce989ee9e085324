use Rattle.std.proofs.Common.{◌≡◌, ◌++◌, map, string_bytes}
use Rattle.serde_json.specs.View.{members_view}
use Rattle.keyword_authoring.specs.Members.{names_in}
use Rattle.standard_basics.proofs.names.Names.of_members.Given as goal

abbrev pub invariant-loop-name : goal.invariant-loop-name
invariant-loop-name l = map string_bytes l.texts.items ++ names_in (members_view l.name-iterator) ≡ names_in (members_view l.members.entries)
