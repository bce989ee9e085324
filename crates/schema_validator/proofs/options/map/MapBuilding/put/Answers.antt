use Rattle.std.proofs.Common.{ap, cond, inl, inr, ◌∙◌}
use Rattle.std.specs.Prelude.{Some, bytes_eq}
use Rattle.schema_validator.specs.MapViews.{at_pointer}
use Rattle.schema_validator.proofs.options.map.MapBuilding.put.Goals as goal
use Rattle.schema_validator.proofs.options.map.MapBuilding.put.Goals.{in-Some+in_ok-name+in_ok-insert, in_default}

pub returns : goal.returns
returns g c = elim c.match-branch-2.branch [
  | in-Some+in_ok-name+in_ok-insert w ↦
      let entry = rw w.in-Some.is at c.in_ok-validator.ensures in
      let old = c.args.map.now in
      inr (
        w.in-Some.validator,
        entry,
        λ name. ap (λ es. at_pointer es name) w.map-is ∙ w.in_ok-insert.ensures.set name
            ∙ ap (λ t. cond (bytes_eq t name) (Some w.in-Some.validator) (at_pointer old name)) w.in_ok-name.ensures.name,
      )
  | in_default w ↦
      let left = rw w.in_default.is at c.in_ok-validator.ensures in
      inl (left, w.map-is)
]
