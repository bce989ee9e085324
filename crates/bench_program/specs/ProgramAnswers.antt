-- What the program prints about an instance, and what that says of the meaning of the validator's
-- nodes.
use Rattle.std.specs.Prelude.{Bool, List, Option, is_none, map, option_map, true, ℕ, ◌≡◌}
use Rattle.theory_definitions.specs.Instance.{Text}
use Rattle.theory_definitions.specs.Cover.{Sense, is_valid}
use Rattle.theory_meaning.specs.Headline.{VerdictSays}
use Rattle.schema_reports.specs.ReportViews.{error_of}
use Rattle.theory_definitions.specs.Reports.{report_of}
use Rattle.schema_reports.specs.UnitViews.{unit_of}
use Rattle.schema_reports.specs.declared.evaluation.EvaluationNode.{EvaluationNode}
use Rattle.schema_reports.specs.declared.reports.ValidationError.{ValidationError}
use Rattle.schema_traits.specs.KeywordViews.{is_nil}
use Rattle.schema_output.specs.Output.{output_list}
use Rattle.schema_compiled.specs.Evaluated.{EvaluationAnswered}
use Rattle.schema_compiled.specs.Spoken.{ErrorsAnswered, FirstAnswered}
use Rattle.bench_program.specs.ProgramTexts.{IsJsonLine, errors_text, first_text, verdict_text}
use Rattle.bench_program.specs.declared.program.requests.Call.{Call}
use Rattle.bench_program.specs.declared.program.requests.Call.TheVariants.{Evaluate, IsValid, IterErrors, Validate}

-- an evaluation by a call that makes at most this many runs, with what is said of such a call and
-- of its units, with its verdict, and with the line of its list
pub record AnswersEvaluate (most : ℕ) (Of : (Bool → Sense → Type 0) → Type 0) (HasUnits : EvaluationNode → Type 0) (accepted : Bool) (text : Text) : Type 0 where
  pub evaluation : EvaluationNode
  pub said : Of (λ spoken v. EvaluationAnswered v most spoken evaluation)
  pub units : HasUnits evaluation
  pub verdict : accepted ≡ (report_of (unit_of true evaluation)).valid
  pub listed : IsJsonLine (output_list (unit_of true evaluation)) text

-- a verdict, a first error, a list of errors or an evaluation, with what is said of its call, and
-- its text; for an evaluation also what is said of its units
abbrev pub Answers : ℕ → ((Bool → Sense → Type 0) → Type 0) → (EvaluationNode → Type 0) → Call → Bool → Text → Type 0
Answers most Of HasUnits IsValid accepted text = Of (λ spoken v. VerdictSays v most is_valid accepted) × (text ≡ verdict_text accepted)
Answers most Of HasUnits Validate accepted text = (first : Option ValidationError) × Of (λ spoken v. FirstAnswered v most spoken first)
    × (accepted ≡ is_none first) × (text ≡ first_text (option_map (error_of true) first))
Answers most Of HasUnits IterErrors accepted text = (errors : List ValidationError) × Of (λ spoken v. ErrorsAnswered v most spoken errors)
    × (accepted ≡ is_nil errors) × (text ≡ errors_text (map (error_of true) errors))
Answers most Of HasUnits Evaluate accepted text = AnswersEvaluate most Of HasUnits accepted text
