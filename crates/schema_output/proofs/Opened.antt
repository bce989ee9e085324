-- A unit of the code, opened by one level.
use Rattle.std.proofs.Common.{◌≡◌, map, rules, true}
use Rattle.theory_definitions.specs.Reports.{unit, units_of}
use Rattle.schema_reports.specs.UnitViews.{report_in, unit_of}
use Rattle.schema_reports.specs.declared.evaluation.EvaluationNode.{EvaluationNode, out-EvaluationNode, the_lemmas}

pub seen : (n : EvaluationNode) → unit_of true n ≡ unit (report_in true (out-EvaluationNode n).report) (units_of (map (unit_of true) (out-EvaluationNode n).children.items))
seen n = search (rules, the_lemmas)
