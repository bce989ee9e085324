use Rattle.std.proofs.Common.{◌≡◌, [], slice_index_or}
use Rattle.serde_json.specs.View.{members_view}
use Rattle.keyword_authoring.specs.Members.{names_in}
use Rattle.keyword_authoring.proofs.members.name_among.Given as goal

abbrev pub invariant-loop-name : goal.invariant-loop-name
invariant-loop-name l = slice_index_or (names_in (members_view l.members.entries)) l.number [] ≡ slice_index_or (names_in (members_view l.name-iterator)) l.left []
