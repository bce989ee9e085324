use Rattle.std.proofs.Common.{ap, refl, ◌∙◌}
use Rattle.serde_json.specs.View.{members_view}
use Rattle.serde_json.proofs.Views.{members_view-insert_entry}
use Rattle.standard_outputs.proofs.members.put_value.Goals as goal

pub returns : goal.returns
returns c =
    let inserted = members_view-insert_entry c.args.object.now.entries c.in_ok-name.name c.args.value in
    record { put = ap members_view c.in_ok-insert.ensures.entries ∙ inserted ∙ rw c.in_ok-name.ensures.ok refl }
