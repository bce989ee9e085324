use Rattle.std.proofs.Common.{◌≡◌, ◌++◌, Some, drop, map, true}
use Rattle.serde_json.specs.View.{view}
use Rattle.theory_definitions.specs.Reports.{report_of, units_of}
use Rattle.schema_reports.specs.UnitViews.{unit_of}
use Rattle.standard_outputs.specs.Hierarchical.{nodes_for_each}
use Rattle.standard_outputs.proofs.hierarchical_units.hierarchical.Given as goal

-- what is there and what is still to come is all of the children's
abbrev pub invariant-loop-child : goal.invariant-loop-child
invariant-loop-child l = map view l.inside.items
    ++ nodes_for_each (Some (report_of (unit_of true l.root))) (units_of (map (unit_of true) (drop l.child-index l.child-items)))
    ≡ nodes_for_each (Some (report_of (unit_of true l.root))) (units_of (map (unit_of true) l.child-items))
