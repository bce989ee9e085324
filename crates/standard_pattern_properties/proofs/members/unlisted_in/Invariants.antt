use Rattle.std.proofs.Common.{◌≡◌, ◌++◌}
use Rattle.serde_json.specs.View.{members_view}
use Rattle.keyword_authoring.specs.Members.{names_in}
use Rattle.standard_pattern_properties.specs.GatedKeywords.{unlisted}
use Rattle.standard_pattern_properties.proofs.members.unlisted_in.Given as goal

abbrev pub invariant-loop-name : goal.invariant-loop-name
invariant-loop-name l = l.left ++ unlisted l.listed (names_in (members_view l.name-iterator)) ≡ unlisted l.listed (names_in (members_view l.members.entries))
