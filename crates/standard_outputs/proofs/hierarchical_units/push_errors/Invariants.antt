use Rattle.std.proofs.Common.{◌≡◌, ◌++◌, drop, map, true}
use Rattle.schema_reports.specs.UnitViews.{described_of, report_in}
use Rattle.standard_outputs.specs.CodeViews.{errors_seen}
use Rattle.standard_outputs.proofs.hierarchical_units.push_errors.Given as goal

-- what is there and what is still to come is what there was and all errors
abbrev pub invariant-loop-error : goal.invariant-loop-error
invariant-loop-error l = errors_seen l.errors.items ++ map (described_of true) (drop l.error-index l.error-items)
    ≡ errors_seen l.initial.errors.items ++ (report_in true l.report).errors
