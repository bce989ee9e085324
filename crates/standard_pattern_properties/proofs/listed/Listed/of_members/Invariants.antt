use Rattle.std.proofs.Common.{◌≡◌, ◌++◌, map, string_bytes}
use Rattle.serde_json.specs.View.{members_view}
use Rattle.keyword_makers.specs.Members.{names_of}
use Rattle.standard_pattern_properties.proofs.ListedNames.{Ascend}
use Rattle.standard_pattern_properties.proofs.listed.Listed.of_members.Given as goal

abbrev pub invariant-loop-name : goal.invariant-loop-name
invariant-loop-name l = Ascend (names_of (members_view l.members.entries))
    × (map string_bytes l.names.keys ++ names_of (members_view l.name-iterator) ≡ names_of (members_view l.members.entries))
