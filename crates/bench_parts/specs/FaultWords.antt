-- What the contracts say of a fault that was found in a document, and of the absence of one.
use Rattle.std.specs.Prelude.{Bool, IfSome, Option, Some, false, option_map, true, ◌≡◌}
use Rattle.serde_json.specs.Data.{Data}
use Rattle.theory_definitions.specs.Instance.{Place, a_value, subject_at}
use Rattle.theory_definitions.specs.Reports.{Error}
use Rattle.schema_reports.specs.ReportViews.{BorrowsItsPlace, error_of}
use Rattle.schema_reports.specs.declared.reports.ValidationError.{ValidationError}

-- the fault is this one, with its text covered only if what was checked holds no fraction
abbrev pub FaultIs : Bool → (Bool → Option Error) → Option ValidationError → Type 0
FaultIs fraction fault found = (texts : Bool) → (texts ≡ true → fraction ≡ false) → option_map (error_of texts) found ≡ fault texts

-- the fault borrows its instance from a document that has this value at this place
abbrev pub FaultBorrows : Place → Data → Option ValidationError → Type 0
FaultBorrows place value found = (root : Data) → subject_at root place ≡ Some (a_value value) → IfSome found (BorrowsItsPlace root)
