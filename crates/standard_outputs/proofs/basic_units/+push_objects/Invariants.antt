use Rattle.std.proofs.Common.{◌≡◌, ◌++◌, drop, map, true}
use Rattle.serde_json.specs.View.{view}
use Rattle.theory_definitions.specs.Reports.{units_of}
use Rattle.schema_reports.specs.UnitViews.{unit_of}
use Rattle.standard_outputs.specs.Basic.{objects_in_each}
use Rattle.standard_outputs.specs.CodeViews.{outer_of}
use Rattle.standard_outputs.proofs.basic_units.+push_objects.Given as goal

-- what is there and what is still to come is what there was and all of the children's
abbrev pub invariant-loop-child : goal.invariant-loop-child
invariant-loop-child l = map view l.objects.items
    ++ objects_in_each l.valid (outer_of l.inner) (units_of (map (unit_of true) (drop l.child-index l.child-items)))
    ≡ map view l.initial.objects.items ++ objects_in_each l.valid (outer_of l.inner) (units_of (map (unit_of true) l.child-items))
