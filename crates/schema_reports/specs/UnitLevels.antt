-- A unit, one level at a time: its own report, and the units inside it, in order.
use Rattle.std.specs.Prelude.{◌≡◌, Bool, map}
use Rattle.theory_definitions.specs.Reports.{Unit_, report_of, unit, units_of}
use Rattle.schema_reports.specs.UnitViews.{report_in, unit_of, unit_step}
use Rattle.schema_reports.specs.declared.evaluation.EvaluationNode.{EvaluationNode, out-EvaluationNode}
use Rattle.schema_reports.specs.declared.evaluation.EvaluationNode.TheFolds.{fold_out-EvaluationNode}
use Rattle.std.proofs.Common.{ap}

pub unit_level : (texts : Bool) (n : EvaluationNode) → unit_of texts n ≡ unit (report_in texts (out-EvaluationNode n).report) (units_of (map (unit_of texts) (out-EvaluationNode n).children.items))
unit_level texts n = fold_out-EvaluationNode Unit_ (unit_step texts) n

pub unit_valid : (texts : Bool) (n : EvaluationNode) → (report_of (unit_of texts n)).valid ≡ (out-EvaluationNode n).report.valid
unit_valid texts n = ap (λ u. (report_of u).valid) (unit_level texts n)
