use Rattle.std.proofs.Common.{◌≡◌, ◌++◌, drop, map, true}
use Rattle.serde_json.specs.View.{view}
use Rattle.schema_reports.specs.UnitViews.{described_of, report_in}
use Rattle.standard_outputs.specs.Basic.{error_objects}
use Rattle.standard_outputs.proofs.basic_units.push_errors.Given as goal

-- what is there and what is still to come is what there was and all errors
abbrev pub invariant-loop-error : goal.invariant-loop-error
invariant-loop-error l = map view l.objects.items ++ error_objects (report_in true l.report) (map (described_of true) (drop l.error-index l.error-items))
    ≡ map view l.initial.objects.items ++ error_objects (report_in true l.report) (map (described_of true) l.error-items)
