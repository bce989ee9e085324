use Rattle.std.specs.Prelude.{Bool, drop, map, ◌≡◌}
use Rattle.std.specs.List.{list_all}
use Rattle.theory_definitions.specs.Reports.{report_of}
use Rattle.schema_reports.specs.UnitViews.{unit_of}
use Rattle.schema_reports.proofs.evaluation.ChildList.all_valid.Given as goal

-- each unit so far is valid
abbrev pub invariant-loop-node : goal.invariant-loop-node
invariant-loop-node l = (texts : Bool) → list_all (λ u. (report_of u).valid) (map (unit_of texts) l.node-items) ≡ list_all (λ u. (report_of u).valid) (map (unit_of texts) (drop l.node-index l.node-items))
