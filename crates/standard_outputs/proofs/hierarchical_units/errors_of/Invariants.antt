use Rattle.std.proofs.Common.{◌≡◌, ◌++◌, drop, map, true}
use Rattle.theory_definitions.specs.Reports.{children_of, report_of, units_of}
use Rattle.schema_reports.specs.UnitViews.{unit_of}
use Rattle.standard_outputs.specs.CodeViews.{errors_seen}
use Rattle.standard_outputs.specs.Hierarchical.{keyword_errors}
use Rattle.standard_outputs.proofs.hierarchical_units.errors_of.Given as goal

-- what is there and what is still to come is the schema object's own errors and all of its keywords'
abbrev pub invariant-loop-child : goal.invariant-loop-child
invariant-loop-child l = errors_seen l.errors.items ++ keyword_errors (report_of (unit_of true l.node)) (units_of (map (unit_of true) (drop l.child-index l.child-items)))
    ≡ (report_of (unit_of true l.node)).errors ++ keyword_errors (report_of (unit_of true l.node)) (children_of (unit_of true l.node))
