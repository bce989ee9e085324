-- The code's errors and units of an evaluation, as the definitions have them. If texts are not
-- covered, each counts as empty.
use Rattle.std.specs.Prelude.{Bool, List, OnOk, Result, String, map, true, ◌++◌, ◌≡◌}
use Rattle.std.specs.declared.alloc.Global.{Global}
use Rattle.serde_json.specs.Data.{Data, Members}
use Rattle.serde_json.specs.View.{members_view}
use Rattle.serde_json.specs.declared.value.Value.{Value}
use Rattle.schema_reports.specs.UnitViews.{described_of, report_in, unit_of}
use Rattle.schema_reports.specs.declared.evaluation.EvaluationNode.{EvaluationNode}
use Rattle.schema_reports.specs.declared.evaluation.UnitReport.{UnitReport}
use Rattle.schema_output.specs.Output.{Shown, output_list, unit_object}
use Rattle.schema_output.specs.declared.errors.ErrorEntry.{ErrorEntry}

abbrev pub shown_of : Bool → ErrorEntry → Shown
shown_of texts e = record { report = report_in texts e.unit.now; error = described_of texts e.error.now }

-- the report of a unit, as an object; and the list format of an evaluation with this outermost unit
abbrev pub object_by : UnitReport → Data
object_by report = unit_object (report_in true report)

abbrev pub list_by : EvaluationNode → Data
list_by node = output_list (unit_of true node)

-- if the call succeeds, these errors are appended to those before; and the members are made from
-- those before
abbrev pub AddsShown : {A E : Type 0} → Result A E → List ErrorEntry → List ErrorEntry → (Bool → List Shown) → Type 0
AddsShown result old new more = OnOk result ((texts : Bool) → map (shown_of texts) new ≡ map (shown_of texts) old ++ more texts)

abbrev pub Makes : {A E : Type 0} → Result A E → List (String Global × Value) → List (String Global × Value) → (Members → Members) → Type 0
Makes result old new made = OnOk result (members_view new ≡ made (members_view old))
