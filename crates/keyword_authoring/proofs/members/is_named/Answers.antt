use Rattle.std.proofs.Common.{◌∙◌, ap, is_some, sym}
use Rattle.serde_json.proofs.Views.{view-lookup}
use Rattle.serde_json.specs.View.{view}
use Rattle.keyword_authoring.proofs.MemberNames.{is_some-map}
use Rattle.keyword_authoring.proofs.members.is_named.Goals as goal

pub returns : goal.returns
returns c = record { named = c.contains_key.ensures ∙ (sym (is_some-map view _) ∙ ap is_some (view-lookup c.args.name.now c.args.members.now.entries)) }
