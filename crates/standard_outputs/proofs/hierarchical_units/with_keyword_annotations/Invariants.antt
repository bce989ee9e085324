use Rattle.std.proofs.Common.{◌≡◌, drop, map, true}
use Rattle.serde_json.specs.View.{members_view}
use Rattle.theory_definitions.specs.Reports.{children_of, report_of, units_of}
use Rattle.schema_reports.specs.UnitViews.{unit_of}
use Rattle.standard_outputs.specs.Hierarchical.{with_keyword_annotations}
use Rattle.standard_outputs.proofs.hierarchical_units.with_keyword_annotations.Given as goal

-- what is there with what is still to come is all
abbrev pub invariant-loop-child : goal.invariant-loop-child
invariant-loop-child l = with_keyword_annotations (report_of (unit_of true l.node)) (units_of (map (unit_of true) (drop l.child-index l.child-items))) (members_view l.annotations.entries)
    ≡ with_keyword_annotations (report_of (unit_of true l.node)) (children_of (unit_of true l.node)) (members_view l.initial.annotations.entries)
