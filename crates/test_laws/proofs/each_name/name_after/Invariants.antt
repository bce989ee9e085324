use Rattle.std.proofs.Common.{◌≡◌, drop}
use Rattle.serde_json.specs.View.{members_view}
use Rattle.keyword_authoring.specs.Members.{names_in}
use Rattle.test_laws.specs.EachName.{first_name}
use Rattle.test_laws.proofs.each_name.name_after.Given as goal

-- the members that are left contain the name
abbrev pub invariant-loop-name : goal.invariant-loop-name
invariant-loop-name l = first_name (drop l.left (names_in (members_view l.name-iterator))) ≡ first_name (drop l.fn.others (names_in (members_view l.members.entries)))
