use Rattle.std.proofs.Common.{subst, sym}
use Rattle.serde_json.specs.Data.{object}
use Rattle.serde_json.specs.View.{members_view}
use Rattle.theory_definitions.specs.Instance.{a_value}
use Rattle.schema_traits.specs.Members.{AreNamed}
use Rattle.schema_traits.proofs.NameWalks.{all_named}
use Rattle.schema_traits.proofs.asked.names.NamesQuestions.of.Goals as goal

pub invariant_of-result : goal.invariant_of-result
invariant_of-result c =
    let s = a_value (object (members_view c.args.members.now.entries)) in
    subst (AreNamed s) (sym c.iter.ensures.rest) (all_named c.args.members.now.entries)
