use Rattle.std.proofs.Common.{◌∙◌, ap, option_map}
use Rattle.serde_json.specs.View.{view}
use Rattle.serde_json.proofs.Views.{view-lookup, view_of_ref}
use Rattle.standard_subschemas.proofs.below.member.Goals as goal

pub returns : goal.returns
returns c = record {
  member = view_of_ref c.get.result ∙ (ap (option_map view) c.get.ensures.value ∙ view-lookup c.args.name.now c.args.members.now.entries);
}
