-- Which errors a search returns: each is an error of a run, or the failure is the only one.
use Rattle.std.specs.Prelude.{All, Contains, List, None, [], true, unwrap_or, ℕ, ◌∷◌, ◌≡◌, ◌⊎◌}
use Rattle.std.specs.Global.{Vec}
use Rattle.serde_json.specs.Data.{Data}
use Rattle.theory_definitions.specs.Cover.{Call, Decides, IsRun, Sense}
use Rattle.theory_meaning.specs.Headline.{IsFailure}
use Rattle.theory_definitions.specs.Instance.{a_value, subject_at}
use Rattle.schema_reports.specs.InstanceViews.{subject_of}
use Rattle.theory_definitions.specs.Matching.{Assumptions}
use Rattle.schema_reports.specs.ReportViews.{error_of}
use Rattle.theory_meaning.specs.Searched.{Reaches}
use Rattle.theory_definitions.specs.Unfinished.{Remembered, starting}
use Rattle.schema_reports.specs.declared.reports.ValidationError.{ValidationError}

module _ (v : Sense) (call : Call) where
  -- an error of a further run, which met no match but the assumed ones
  pub record OfRun {S : Type 0} (Step : S → Remembered → Remembered → Vec ValidationError → S → Type 0) (start : S) (e : ValidationError) : Type 0 where
    pub before : S
    pub assumptions : Assumptions
    pub remembered : Remembered
    pub errors : Vec ValidationError
    pub after : S
    pub reaches : Reaches Step start before
    pub runs : IsRun v call assumptions
    pub further : ¬ (assumptions ≡ [])
    pub is_step : Step before (starting assumptions) remembered errors after
    pub all_assumed : remembered.unassumed ≡ None
    pub gives : Contains errors.items e

  -- the only error, which is the failure of the call within this many runs; its instance is the one
  -- at its place, or the root if there is none
  pub record FailureAlone (limit : ℕ) (root : Data) (es : List ValidationError) : Type 0 where
    pub error : ValidationError
    pub alone : es ≡ error ∷ []
    pub is : IsFailure v limit call (error_of true error)
    pub instance : subject_of error.instance ≡ unwrap_or (subject_at root error.place) (a_value root)

  -- each error is one of a run, or the failure is the only error; it is the only error if the call
  -- does not decide within this many runs
  pub record GivesErrors (limit : ℕ) {S : Type 0} (Step : S → Remembered → Remembered → Vec ValidationError → S → Type 0) (start : S) (root : Data) (es : List ValidationError) : Type 0 where
    pub each : All (OfRun Step start) es ⊎ FailureAlone limit root es
    pub undecided : ¬ (Decides v limit call) → FailureAlone limit root es
