use Rattle.std.proofs.Common.{◌≡◌, ◌++◌, Bool, map, drop}
use Rattle.schema_reports.specs.UnitViews.{report_in, described_of}
use Rattle.schema_output.specs.EntryViews.{shown_of}
use Rattle.schema_output.specs.Output.{shown_with, shown_by}
use Rattle.schema_output.proofs.errors.push_own_errors.Given as goal

-- what is there and what is still to come is what there was and all errors
abbrev pub invariant-loop-error : goal.invariant-loop-error
invariant-loop-error l = (texts : Bool)
    → map (shown_of texts) l.entries.items
    ++ map (shown_with (report_in texts l.report)) (map (described_of texts) (drop l.error-index l.error-items))
    ≡ map (shown_of texts) l.initial.entries.items ++ shown_by (report_in texts l.report)
