use Rattle.std.proofs.Common.{◌≡◌, ◌++◌, Bool, map, drop}
use Rattle.std.specs.List.{flat_map}
use Rattle.theory_definitions.specs.Reports.{units_of}
use Rattle.schema_reports.specs.UnitViews.{unit_of}
use Rattle.schema_output.specs.EntryViews.{shown_of}
use Rattle.schema_output.specs.Output.{reports_in_each, shown_by}
use Rattle.schema_output.proofs.errors.+push_errors.Given as goal

-- what is there and what is still to come is what there was and all of the children's
abbrev pub invariant-loop-child : goal.invariant-loop-child
invariant-loop-child l = (texts : Bool)
    → map (shown_of texts) l.entries.items
    ++ flat_map shown_by (reports_in_each (units_of (map (unit_of texts) (drop l.child-index l.child-items))))
    ≡ map (shown_of texts) l.initial.entries.items ++ flat_map shown_by (reports_in_each (units_of (map (unit_of texts) l.child-items)))
