use Rattle.std.proofs.Common.{◌∙◌, ap}
use Rattle.std.specs.Prelude.{is_some}
use Rattle.schema_validator.specs.MapViews.{at_pointer}
use Rattle.schema_validator.proofs.MapEntries.{found_by}
use Rattle.schema_validator.proofs.map.ValidatorMap.contains_key.Goals as goal

pub returns : goal.returns
returns g c = record { found = c.contains_key.ensures ∙ ap is_some (found_by c.args.pointer.now c.self.inside.entries.entries ∙ ap (λ es. at_pointer es c.args.pointer.now) c.self.view_is) }
