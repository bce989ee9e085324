use Rattle.std.proofs.Common.{◌≡◌, Bool, map}
use Rattle.schema_reports.specs.ReportViews.{error_of}
use Rattle.schema_reports.specs.UnitViews.{unit_of}
use Rattle.schema_output.specs.ErrorUnits.{error_unit}
use Rattle.schema_output.proofs.error_units.unit_of_errors.Given as goal

abbrev pub invariant-loop-error : goal.invariant-loop-error
invariant-loop-error l = (texts : Bool) → map (unit_of texts) l.children.items ≡ map error_unit (map (error_of texts) l.yielded)
