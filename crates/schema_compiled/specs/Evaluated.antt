-- The answer of `evaluate`: the verdict of its outermost unit; its units, if the first run meets no
-- unfinished match; and the errors that its units are made of, if the first run meets one. (Core
-- 2020-12, 12.4)
use Rattle.std.specs.Prelude.{All, Bool, List, None, [], map, true, ℕ, ◌≡◌, ◌≤◌, ◌⊎◌}
use Rattle.theory_definitions.specs.Cover.{Decides, Sense, branch_at, evaluate}
use Rattle.theory_meaning.specs.Headline.{ErrorsOf, OneFailure, VerdictSays}
use Rattle.theory_definitions.specs.Matching.{Completion}
use Rattle.theory_definitions.specs.Reports.{Unit_, report_of}
use Rattle.schema_reports.specs.ReportViews.{error_of}
use Rattle.schema_reports.specs.UnitViews.{unit_of}
use Rattle.schema_reports.specs.declared.evaluation.EvaluationNode.{EvaluationNode}
use Rattle.schema_reports.specs.declared.reports.ValidationError.{ValidationError}
use Rattle.schema_output.specs.ErrorUnits.{errors_unit}
use Rattle.schema_compiled.specs.Spoken.{IsGiven}

-- the verdict of an evaluation, the one of its outermost unit
abbrev pub verdict_in : Bool → EvaluationNode → Bool
verdict_in texts u = (report_of (unit_of texts u)).valid

-- of a call with this limit on runs
module _ (v : Sense) (most : ℕ) (texts : Bool) where
  -- one unit for each of these errors, inside one at empty locations. Each error is one that some
  -- outcome produces, or the call returns its one failure, as it does if it does not decide. If
  -- texts are covered, the errors are those that all outcomes share, or the failure if there is
  -- none and some outcome refuses
  pub record IsOfErrors (u : Unit_) : Type 0 where
    pub errors : List ValidationError
    pub made : u ≡ errors_unit (map (error_of texts) errors)
    pub given : All (IsGiven v texts) errors ⊎ OneFailure v most evaluate (map (error_of true) errors)
    pub undecided : ¬ (Decides v most evaluate) → OneFailure v most evaluate (map (error_of true) errors)
    pub shared : texts ≡ true → ErrorsOf v most evaluate (map (error_of true) errors)

  -- the call makes its first run; the verdict is "valid" exactly if every outcome accepts, and
  -- "invalid" if the call does not decide; if the first run meets an unfinished match, the units
  -- are those of errors
  pub record EvaluationAnswered (u : EvaluationNode) : Type 0 where
    pub makes_one : 1 ≤ most
    pub verdict : VerdictSays v most evaluate (report_of (unit_of texts u)).valid
    pub apart : ¬ (branch_at v evaluate [] ≡ None) → IsOfErrors (unit_of texts u)

-- if the first run meets no unfinished match, the units are these, under every outcome
module _ (v : Sense) (texts : Bool) where
  abbrev pub UnitsAnswered : (Completion → Unit_) → EvaluationNode → Type 0
  UnitsAnswered units u = branch_at v evaluate [] ≡ None → (c : Completion) → unit_of texts u ≡ units c
