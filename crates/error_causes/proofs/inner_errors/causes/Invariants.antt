use Rattle.std.proofs.Common.{◌≡◌, ◌++◌, Bool, map}
use Rattle.std.specs.Prelude.{filter}
use Rattle.schema_output.specs.EntryViews.{shown_of}
use Rattle.schema_output.specs.Output.{shown_in}
use Rattle.schema_reports.specs.UnitViews.{unit_of}
use Rattle.error_causes.specs.Causes.{is_cause}
use Rattle.error_causes.proofs.inner_errors.causes.Given as goal

-- the causes among the errors that are left come behind those that were found
abbrev pub invariant-loop-entry : goal.invariant-loop-entry
invariant-loop-entry l = (texts : Bool) → filter (is_cause l.path l.instance) (shown_in (unit_of texts l.evaluation))
    ≡ map (shown_of texts) l.found.items ++ filter (is_cause l.path l.instance) (map (shown_of texts) l.entry-iterator)
