use Rattle.std.proofs.Common.{drop, map, string_bytes, true}
use Rattle.theory_definitions.specs.Instance.{Text}
use Rattle.theory_definitions.specs.Reports.{units_of}
use Rattle.schema_reports.specs.UnitViews.{unit_of}
use Rattle.schema_output.specs.Output.{reports_in_each, unit_object}
use Rattle.schema_output.specs.Texts.{Follow}
use Rattle.schema_output.proofs.text.+push_below.Given as goal

-- what follows what is there now follows, with all before it, what there was
abbrev pub invariant-loop-child : goal.invariant-loop-child
invariant-loop-child l = (end : Text)
    → Follow (map unit_object (reports_in_each (units_of (map (unit_of true) (drop l.child-index l.child-items))))) (string_bytes l.out) end
    → Follow (map unit_object (reports_in_each (units_of (map (unit_of true) l.child-items)))) (string_bytes l.initial.out) end
