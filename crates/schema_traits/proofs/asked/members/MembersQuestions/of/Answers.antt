use Rattle.std.proofs.Common.{subst, sym}
use Rattle.serde_json.specs.Data.{object}
use Rattle.serde_json.specs.View.{members_view}
use Rattle.theory_definitions.specs.Instance.{a_value}
use Rattle.schema_traits.specs.Members.{HaveAllOf}
use Rattle.schema_traits.proofs.MemberWalks.{all_had}
use Rattle.schema_traits.proofs.asked.members.MembersQuestions.of.Goals as goal

pub invariant_of-result : goal.invariant_of-result
invariant_of-result c =
    let s = a_value (object (members_view c.args.members.now.entries)) in
    subst (HaveAllOf s c.args.names.now) (sym c.iter.ensures.rest) (all_had c.args.members.now.entries c.args.names.now c.iter.ensures.ordered)
