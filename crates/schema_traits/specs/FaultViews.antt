-- What becomes of a keyword's faults at a place.
use Rattle.std.specs.Prelude.{List, [], ◌∷◌, Some, None, All, map}
use Rattle.serde_json.specs.Data.{Data}
use Rattle.theory_definitions.specs.Instance.{Subject, Text}
use Rattle.schema_reports.specs.InstanceViews.{step_of}
use Rattle.theory_definitions.specs.Keywords as spec
use Rattle.theory_definitions.specs.Meaning.{Where, fault_error}
use Rattle.theory_definitions.specs.Laws.{IsPresent}
use Rattle.theory_definitions.specs.Runs.{first_error}
use Rattle.schema_reports.specs.ReportViews.{BorrowsItsPlace}
use Rattle.schema_reports.specs.declared.reports.ValidationError.{ValidationError}
use Rattle.schema_traits.specs.declared.keyword.Reply.{Reply}
use Rattle.schema_traits.specs.declared.keyword.Reply.TheVariants as reply
use Rattle.schema_traits.specs.declared.keyword.Fault.{Fault}
use Rattle.schema_traits.specs.declared.keyword.Fault.TheVariants as fault
use Rattle.schema_traits.specs.declared.keyword.Answer.{Answer}
use Rattle.schema_traits.specs.declared.keyword.Answer.TheVariants as answer

-- the errors of a reply
abbrev pub errors_in : Reply → List ValidationError
errors_in reply.Nothing = []
errors_in (reply.Truth b) = []
errors_in (reply.First None) = []
errors_in (reply.First (Some e)) = e.value ∷ []
errors_in (reply.All es) = es.items
errors_in (reply.Unit u) = []

-- the reply that an answer becomes in a mode, for a keyword of this name that runs at this place
abbrev pub answer_reply : spec.Mode → Where → Text → spec.Answer → spec.Reply
answer_reply spec.for_verdict w name a = spec.truth a.verdict
answer_reply spec.for_first w name a = spec.first_of_it (first_error (map (fault_error w name) a.errors))
answer_reply spec.for_all w name a = spec.all_of_it (map (fault_error w name) a.errors)
answer_reply spec.for_units w name a = spec.no_reply

-- the faults of an answer
abbrev pub faults_in : Answer → List Fault
faults_in (answer.Verdict b) = []
faults_in (answer.First None) = []
faults_in (answer.First (Some f)) = f.value ∷ []
faults_in (answer.All fs) = fs.items
faults_in (answer.Evaluation b) = []

-- an error that is passed on borrows its place
abbrev pub PassesBorrowed : Data → Fault → Type 0
PassesBorrowed d (fault.Own e) = Unit {0}
PassesBorrowed d (fault.Passed e) = BorrowsItsPlace d e

-- an error of the keyword's own lies inside the instance, and an error that is passed on borrows
-- its place
abbrev pub LiesInside : Data → Subject → Fault → Type 0
LiesInside d s (fault.Own e) = IsPresent s (map step_of e.below.items)
LiesInside d s (fault.Passed e) = BorrowsItsPlace d e

-- in the modes that find errors, `LiesInside` holds for each fault of an answer
abbrev pub FaultsLieInside : spec.Mode → Data → Subject → Answer → Type 0
FaultsLieInside spec.for_first d s a = All (LiesInside d s) (faults_in a)
FaultsLieInside spec.for_all d s a = All (LiesInside d s) (faults_in a)
FaultsLieInside _ d s a = Unit {0}
