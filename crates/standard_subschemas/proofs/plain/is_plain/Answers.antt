use Rattle.std.proofs.Common.{◌≡◌, ◌∙◌, ap}
use Rattle.serde_json.specs.Data.{object}
use Rattle.serde_json.specs.View.{members_view, view}
use Rattle.serde_json.specs.declared.value.Value.{Value}
use Rattle.serde_json.proofs.Views.{view-Object}
use Rattle.standard_subschemas.proofs.PlainObjects.{plain_if}
use Rattle.standard_subschemas.proofs.plain.is_plain.Goals as goal

pub returns-in-Object : goal.returns-in-Object
returns-in-Object c =
    let members = members_view c.in-Object.members.entries in
    let is : view c.args.schema.now ≡ object members = ap (λ (v : Value). view v) c.in-Object.is ∙ view-Object c.in-Object.members in
    record { plain = plain_if c.args.rule c.any_speaks.result members (view c.args.schema.now) c.any_speaks.ensures.any is }
