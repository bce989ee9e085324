use Rattle.std.proofs.Common.{◌≡◌, List, [], ◌∷◌, length, refl, ap, ◌∙◌}
use Rattle.std.specs.Prelude.{Some}
use Rattle.serde_json.specs.Data.{object}
use Rattle.serde_json.specs.View.{members_view}
use Rattle.serde_json.proofs.Views.{Entry, view-Object}
use Rattle.theory_definitions.specs.Units.{object_of}
use Rattle.standard_outputs.proofs.hierarchical_units.object_of.Goals as goal

some_object : (es : List Entry) → (length es ≡ 0 → ⊥) → Some (object (members_view es)) ≡ object_of (members_view es)
some_object [] h = absurd (h refl)
some_object (e ∷ es) h = refl

pub returns-else-is_empty : goal.returns-else-is_empty
returns-else-is_empty c = record { object = ap Some (view-Object c.args.members) ∙ some_object c.args.members.entries (λ e. cc (c.is_empty.ensures.1 e, c.if-is_empty.false)) }
