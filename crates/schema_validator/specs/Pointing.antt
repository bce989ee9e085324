-- Where the errors of a call point: each at a keyword that its evaluation path leads to, with a
-- schema path that continues the target's location in the same way, and at a value inside the
-- instance; or the call returns its one failure, if a match stays unfinished. The errors in the
-- units of an evaluation point so too, each by its unit. (Core 2020-12, 12.3 and 12.4)
use Rattle.std.specs.Prelude.{All, Bool, List, None, Option, Some, [], map, true, ℕ, ◌≡◌, ◌⊎◌}
use Rattle.serde_json.specs.Data.{Data}
use Rattle.theory_definitions.specs.Reports.{Unit_}
use Rattle.theory_definitions.specs.Parts.{Parts}
use Rattle.theory_definitions.specs.Plan.{Key}
use Rattle.theory_definitions.specs.Cover.{Call, Decides, Sense, branch_at, evaluate, iter_errors, validate}
use Rattle.theory_meaning.specs.Headline.{Either, IsFailure, OneFailure}
use Rattle.theory_meaning.specs.ErrorsLead.{PointsAt}
use Rattle.theory_meaning.specs.UnitsLead.{UnitsPoint}
use Rattle.schema_reports.specs.ReportViews.{error_of}
use Rattle.schema_reports.specs.UnitViews.{unit_of}
use Rattle.schema_reports.specs.declared.evaluation.EvaluationNode.{EvaluationNode}
use Rattle.schema_reports.specs.declared.reports.ValidationError.{ValidationError}
use Rattle.schema_output.specs.ErrorUnits.{errors_unit}

-- of a call with this limit on runs
module _ {S K R : Type 0} (w : Parts S K R) (root : Key S) (instance : Data) (v : Sense) (most : ℕ) where
  -- each of a call's errors points so, or the call returns its one failure; the latter if it does
  -- not decide
  abbrev pub EachPointsIn : Call → Bool → List ValidationError → Type 0
  EachPointsIn call texts es = Either (Decides v most call) (All (PointsAt w root instance) (map (error_of texts) es) ⊎ OneFailure v most call (map (error_of true) es)) (OneFailure v most call (map (error_of true) es))

  abbrev pub EachPoints : Bool → List ValidationError → Type 0
  EachPoints = EachPointsIn iter_errors

  abbrev pub FirstPoints : Bool → Option ValidationError → Type 0
  FirstPoints texts None = Unit {0}
  FirstPoints texts (Some e) = Either (Decides v most validate) (PointsAt w root instance (error_of texts e) ⊎ IsFailure v most validate (error_of true e)) (IsFailure v most validate (error_of true e))

  -- there is one unit for each of these errors, inside one at empty locations; the errors point so
  pub record IsOfPointing (texts : Bool) (u : Unit_) : Type 0 where
    pub errors : List ValidationError
    pub made : u ≡ errors_unit (map (error_of texts) errors)
    pub point : EachPointsIn evaluate texts errors

  -- if the first run meets an unfinished match, the units are those of errors that point so; if it
  -- meets none, each unit that has an error of its own points so
  pub record EvaluationPoints (texts : Bool) (u : EvaluationNode) : Type 0 where
    pub apart : ¬ (branch_at v evaluate [] ≡ None) → IsOfPointing texts (unit_of texts u)
    pub alone : branch_at v evaluate [] ≡ None → UnitsPoint w root instance (unit_of texts u)
