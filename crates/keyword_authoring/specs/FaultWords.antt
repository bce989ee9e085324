-- The faults in an answer after a call, whether texts are covered or not.
use Rattle.std.specs.Prelude.{Bool, List, String, map, string_bytes, ◌++◌, ◌≡◌}
use Rattle.std.specs.declared.alloc.Global.{Global}
use Rattle.theory_definitions.specs.Instance.{Text}
use Rattle.theory_definitions.specs.Keywords as spec
use Rattle.schema_reports.specs.ReportViews.{error_of, spoken}
use Rattle.schema_reports.specs.declared.reports.ValidationError.{ValidationError}
use Rattle.schema_traits.specs.KeywordViews.{answer_of, fault_of, reply_of}
use Rattle.schema_traits.specs.declared.keyword.Answer.{Answer}
use Rattle.schema_traits.specs.declared.keyword.Fault.{Fault}
use Rattle.schema_traits.specs.declared.keyword.Mode.{Mode}
use Rattle.schema_traits.specs.declared.keyword.Reply.{Reply}
use Rattle.keyword_authoring.specs.AnswerWords.{Becomes, own_fault}
use Rattle.keyword_authoring.specs.Ways.{evaluated, noted, with_first}

-- the answer takes the fault as its first, unless it has one
abbrev pub TakesFirst : Fault → Answer → Answer → Type 0
TakesFirst fault old new = Becomes old (λ texts a. with_first a a.errors (fault_of texts fault)) new

-- these are the faults of the answer
abbrev pub AreErrorsOf : Answer → List Fault → Type 0
AreErrorsOf answer faults = (texts : Bool) → map (fault_of texts) faults ≡ (answer_of texts answer).errors

-- the answer becomes a refusal in an evaluation, with this error of the keyword itself
abbrev pub Evaluates : Text → String Global → Answer → Answer → Type 0
Evaluates name text old new = Becomes old (λ texts a. evaluated a (own_fault texts name text)) new

-- the fault is the error of a keyword of this name, with this text
abbrev pub IsOwnFault : Text → String Global → Fault → Type 0
IsOwnFault name text fault = (texts : Bool) → fault_of texts fault ≡ own_fault texts name text

-- the errors follow the old faults, as passed on
abbrev pub PassesErrors : List ValidationError → List Fault → List Fault → Type 0
PassesErrors errors old new = (texts : Bool) → map (fault_of texts) new ≡ map (fault_of texts) old ++ map spec.passed (map (error_of texts) errors)

-- errors of the keyword itself with these texts are added
abbrev pub NotesEach : Mode → Text → List (String Global) → Answer → Answer → Type 0
NotesEach mode name found old new = Becomes old (λ texts a. noted mode name a (map (λ text. spoken texts (string_bytes text)) found)) new

-- this is what a reply says
abbrev pub IsOfReply : (spec.Reply → Bool) → Reply → Bool → Type 0
IsOfReply says reply said = (texts : Bool) → said ≡ says (reply_of texts reply)
