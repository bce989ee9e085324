-- The place of a value in a schema under the meta check, as its steps.
use Rattle.std.specs.Prelude.{◌++◌, ◌∷◌, []}
use Rattle.theory_definitions.specs.Instance.{Place}
use Rattle.schema_reports.specs.InstanceViews.{step_of}
use Rattle.bench_parts.specs.declared.meta_place.MetaPlace.{MetaPlace, Root, Below'}

-- the steps from the root down
abbrev pub steps_to : MetaPlace → Place
steps_to Root = []
steps_to (Below' pointer above step) = steps_to above ++ step_of step ∷ []
