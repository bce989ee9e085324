-- What becomes of the places that the errors in an answer borrow.
use Rattle.std.specs.Prelude.{All, IfOk, Result}
use Rattle.serde_json.specs.Data.{Data}
use Rattle.schema_reports.specs.ReportViews.{BorrowsItsPlace}
use Rattle.schema_traits.specs.FaultViews.{PassesBorrowed, errors_in, faults_in}
use Rattle.schema_traits.specs.declared.keyword.Answer.{Answer}
use Rattle.schema_traits.specs.declared.keyword.Reply.{Reply}
use Rattle.schema_traits.specs.declared.keyword.Fault.{Fault}

-- each error that the new answer passes on borrows its place, if each of the old answer does
abbrev pub KeepsBorrows : Answer → Answer → Type 0
KeepsBorrows old new = (root : Data) → All (PassesBorrowed root) (faults_in old) → All (PassesBorrowed root) (faults_in new)

-- the same, if each error of a reply borrows its place too
abbrev pub TakesBorrows : Reply → Answer → Answer → Type 0
TakesBorrows reply old new = (root : Data) → All (BorrowsItsPlace root) (errors_in reply) → All (PassesBorrowed root) (faults_in old) → All (PassesBorrowed root) (faults_in new)

-- if the result is `Ok`, then `KeepsBorrows`
abbrev pub Retains : {A E : Type 0} → Answer → Answer → Result A E → Type 0
Retains old new result = IfOk result (λ _. KeepsBorrows old new)

-- if the result is `Ok`, then `TakesBorrows`
abbrev pub Borrows : {A E : Type 0} → Reply → Answer → Answer → Result A E → Type 0
Borrows reply old new result = IfOk result (λ _. TakesBorrows reply old new)

-- an error that is passed on borrows its place
abbrev pub AlwaysBorrows : Fault → Type 0
AlwaysBorrows fault = (root : Data) → PassesBorrowed root fault
