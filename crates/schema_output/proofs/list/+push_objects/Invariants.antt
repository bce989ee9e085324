use Rattle.std.proofs.Common.{◌≡◌, ◌++◌, map, drop, true}
use Rattle.serde_json.specs.View.{view}
use Rattle.theory_definitions.specs.Reports.{units_of}
use Rattle.schema_reports.specs.UnitViews.{unit_of}
use Rattle.schema_output.specs.Output.{reports_in_each, unit_object}
use Rattle.schema_output.proofs.list.+push_objects.Given as goal

-- what is there and what is still to come is what there was and all of the children's
abbrev pub invariant-loop-child : goal.invariant-loop-child
invariant-loop-child l = map view l.objects.items
    ++ map unit_object (reports_in_each (units_of (map (unit_of true) (drop l.child-index l.child-items))))
    ≡ map view l.initial.objects.items ++ map unit_object (reports_in_each (units_of (map (unit_of true) l.child-items)))
