-- The answer of a call that needs more steps or more depth than its validator allows: "invalid", or
-- one failure that reports the limit.
use Rattle.std.specs.Prelude.{List, None, Option, Some, [], codes, decimal, true, ℕ, ◌++◌, ◌∷◌, ◌≡◌, ◌⊎◌}
use Rattle.serde_json.specs.Data.{Data}
use Rattle.theory_definitions.specs.Instance.{Text, a_value}
use Rattle.theory_definitions.specs.Reports.{Error}
use Rattle.schema_reports.specs.InstanceViews.{subject_of}
use Rattle.schema_reports.specs.ReportViews.{error_of}
use Rattle.schema_reports.specs.UnitViews.{unit_of}
use Rattle.schema_reports.specs.declared.evaluation.EvaluationNode.{EvaluationNode}
use Rattle.schema_reports.specs.declared.reports.ValidationError.{ValidationError}
use Rattle.schema_output.specs.ErrorUnits.{errors_unit}
use Rattle.schema_compiled.specs.declared.stopping.CallLimit.{CallLimit}
use Rattle.schema_compiled.specs.declared.stopping.CallLimit.TheVariants.{Depth, Steps}

-- without limits on steps and on depth, this holds of the answer; with one of them or both, it
-- does, or the call stopped at one that there is, and this is its answer
abbrev pub UnlessStopped : Option ℕ → Option ℕ → (CallLimit → Type 0) → Type 0 → Type 0
UnlessStopped None None stopped fact = fact
UnlessStopped (Some steps) None stopped fact = fact ⊎ stopped (Steps steps)
UnlessStopped None (Some depth) stopped fact = fact ⊎ stopped (Depth depth)
UnlessStopped (Some steps) (Some depth) stopped fact = fact ⊎ (stopped (Steps steps) ⊎ stopped (Depth depth))

-- a limit is one of these: on steps, or on depth
abbrev pub IsOneOf : Option ℕ → Option ℕ → CallLimit → Type 0
IsOneOf work depth (Steps limit) = work ≡ Some limit
IsOneOf work depth (Depth limit) = depth ≡ Some limit

-- the keyword and the text by which a limit is reported
abbrev pub limit_name : CallLimit → Text
limit_name (Steps limit) = codes "workLimit"
limit_name (Depth limit) = codes "depthLimit"

abbrev pub limit_text : CallLimit → Text
limit_text (Steps limit) = codes "The limit of " ++ (decimal limit ++ codes " steps was reached")
limit_text (Depth limit) = codes "The limit of " ++ (decimal limit ++ codes " nested evaluations was reached")

-- the failure of a call that stopped at a limit
abbrev pub limit_error : CallLimit → Error
limit_error limit = record {
  place = [];
  schema_path = [];
  evaluation_path = [];
  absolute = None;
  name = limit_name limit;
  text = limit_text limit;
}

-- an error is this failure, at the whole instance
pub record TellsLimit (instance : Data) (limit : CallLimit) (e : ValidationError) : Type 0 where
  pub is : error_of true e ≡ limit_error limit
  pub at_root : subject_of e.instance ≡ a_value instance

-- the first error is this failure
abbrev pub FirstTellsLimit : Data → Option ValidationError → CallLimit → Type 0
FirstTellsLimit instance o limit = (e : ValidationError) × (o ≡ Some e) × TellsLimit instance limit e

-- the only error is this failure
abbrev pub OnlyTellsLimit : Data → List ValidationError → CallLimit → Type 0
OnlyTellsLimit instance es limit = (e : ValidationError) × (es ≡ e ∷ []) × TellsLimit instance limit e

-- the units are made of this failure alone
abbrev pub GivesLimit : EvaluationNode → CallLimit → Type 0
GivesLimit u limit = unit_of true u ≡ errors_unit (limit_error limit ∷ [])
