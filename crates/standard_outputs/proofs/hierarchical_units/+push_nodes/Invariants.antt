use Rattle.std.proofs.Common.{◌≡◌, ◌++◌, None, Some, drop, map, true}
use Rattle.serde_json.specs.View.{view}
use Rattle.theory_definitions.specs.Reports.{report_of, units_of}
use Rattle.schema_reports.specs.UnitViews.{unit_of}
use Rattle.standard_outputs.specs.Hierarchical.{nodes_for_each}
use Rattle.standard_outputs.proofs.hierarchical_units.+push_nodes.Given as goal

-- what is there and what is still to come is what there was and all of the children's
abbrev pub invariant-loop-child : goal.invariant-loop-child
invariant-loop-child l = map view l.nodes.items ++ nodes_for_each None (units_of (map (unit_of true) (drop l.child-index l.child-items)))
    ≡ map view l.initial.nodes.items ++ nodes_for_each None (units_of (map (unit_of true) l.child-items))

abbrev pub invariant-loop-child-2 : goal.invariant-loop-child-2
invariant-loop-child-2 l = map view l.inside.items
    ++ nodes_for_each (Some (report_of (unit_of true l.node))) (units_of (map (unit_of true) (drop l.child-index l.child-items)))
    ≡ nodes_for_each (Some (report_of (unit_of true l.node))) (units_of (map (unit_of true) l.child-items))
