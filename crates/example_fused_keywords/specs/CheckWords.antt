-- The error and the unit of a check, as the code makes them.
use Rattle.std.specs.Prelude.{Bool, List, String, map, string_bytes, true, ◌++◌, ◌≡◌}
use Rattle.std.specs.declared.alloc.Global.{Global}
use Rattle.theory_definitions.specs.Instance.{Text}
use Rattle.schema_reports.specs.EvaluationResults.{gives_of, named_of}
use Rattle.schema_reports.specs.ReportViews.{spoken}
use Rattle.schema_reports.specs.declared.evaluation_result.AbsorbedResult.{AbsorbedResult}
use Rattle.schema_reports.specs.declared.evaluation_result.EvaluationResult.{EvaluationResult}
use Rattle.schema_reports.specs.declared.instance.Instance.{Instance}
use Rattle.schema_traits.specs.KeywordViews.{fault_of}
use Rattle.schema_traits.specs.declared.keyword.Fault.{Fault}
use Rattle.keyword_authoring.specs.AnswerWords.{IfTold}
use Rattle.example_fused_keywords.specs.Checks.{absorbed_unit, error_at, errors_at, own_unit, spot_name}
use Rattle.example_fused_keywords.specs.declared.checks.Check.{Check}

-- the error has this name and text, at the keyword itself or at the absorbed one
abbrev pub IsErrorAt : Bool → Text → String Global → Fault → Type 0
IsErrorAt absorbed called text fault = (texts : Bool) → fault_of texts fault ≡ error_at (spot_name absorbed called) called (spoken texts (string_bytes text))

-- the check's error is added, if the instance does not pass it
abbrev pub PushesError : Bool → Check → Instance → List Fault → List Fault → Type 0
PushesError absorbed check instance old new = IfTold true instance (λ texts s. map (fault_of texts) new ≡ map (fault_of texts) old ++ errors_at texts absorbed check s)

-- the result is the check's in the keyword's own unit
abbrev pub IsOwnUnit : Check → Instance → EvaluationResult → Type 0
IsOwnUnit check instance found = IfTold true instance (λ texts s. gives_of texts found ≡ own_unit texts check s)

-- the result is the check's as that of an absorbed keyword
abbrev pub IsAbsorbedUnit : Check → Instance → AbsorbedResult → Type 0
IsAbsorbedUnit check instance found = IfTold true instance (λ texts s. named_of texts found ≡ absorbed_unit texts check s)
