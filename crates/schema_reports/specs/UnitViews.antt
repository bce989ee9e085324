-- The code's units, in terms of the definitions. If texts are not covered, each text counts as
-- empty.
use Rattle.std.specs.Prelude.{Bool, map, option_map, string_bytes}
use Rattle.serde_json.specs.View.{view}
use Rattle.theory_definitions.specs.Reports.{Described, Report, Unit_, unit, units_of}
use Rattle.schema_reports.specs.ReportViews.{spoken}
use Rattle.schema_reports.specs.declared.evaluation.ErrorDescription.{ErrorDescription}
use Rattle.schema_reports.specs.declared.evaluation.UnitReport.{UnitReport}
use Rattle.schema_reports.specs.declared.evaluation.EvaluationNode.{EvaluationNode}
use Rattle.schema_reports.specs.declared.evaluation.EvaluationNode.TheFolds.{fold-EvaluationNode}
use Rattle.schema_reports.specs.declared.evaluation.EvaluationNode.TheOpen.{EvaluationNode-F}

abbrev pub described_of : Bool → ErrorDescription → Described
described_of texts e = record { name = string_bytes e.keyword; text = spoken texts (string_bytes e.text) }

abbrev pub report_in : Bool → UnitReport → Report
report_in texts r = record {
  valid = r.valid;
  instance_location = r.instance_location;
  evaluation_path = r.evaluation_path;
  schema_path = r.schema_location;
  absolute = option_map string_bytes r.absolute_keyword_location;
  annotations = option_map view r.annotations;
  errors = map (described_of texts) r.errors.items;
}

-- one level of a unit, whose children are translated already
abbrev pub unit_step : Bool → EvaluationNode-F Unit_ → Unit_
unit_step texts n = unit (report_in texts n.report) (units_of n.children.items)

abbrev pub unit_of : Bool → EvaluationNode → Unit_
unit_of texts = fold-EvaluationNode Unit_ (unit_step texts)
