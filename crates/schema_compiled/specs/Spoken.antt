-- The answers of `validate` and `iter_errors`. If texts of errors are covered, the answers are said
-- in full. If the instance or a keyword holds a fraction, texts are not covered, so it is not known
-- which errors all outcomes share. Then these words say the verdict, where each error comes from,
-- and, if the first run meets no unfinished match, the answers. Where errors come from is said
-- separately too, so that a fact about all errors of a sense is one about the returned errors.
use Rattle.std.specs.Prelude.{All, Bool, Contains, IfSome, List, None, Option, Some, [], false, is_none, map, option_map, true, ℕ, ◌≡◌, ◌⊎◌}
use Rattle.theory_definitions.specs.Reports.{Error}
use Rattle.theory_definitions.specs.Matching.{Completion}
use Rattle.theory_definitions.specs.Cover.{Decides, Sense, branch_at, iter_errors, validate}
use Rattle.theory_meaning.specs.Headline.{Either, ErrorsSay, FirstSays, IsFailure, OneFailure, VerdictSays}
use Rattle.schema_reports.specs.ReportViews.{error_of}
use Rattle.unfinished_search.specs.SharedResults.{is_empty}
use Rattle.schema_reports.specs.declared.reports.ValidationError.{ValidationError}

module _ (v : Sense) where
  -- some outcome produces the error
  abbrev pub IsGiven : Bool → ValidationError → Type 0
  IsGiven texts e = (c : Completion) × Contains (v.says c).errors (error_of texts e)

-- of a call with this limit on runs
module _ (v : Sense) (most : ℕ) where
  -- errors if texts are not covered: each is one of some outcome, or the failure is alone; the
  -- latter if the call does not decide
  pub record ErrorsUnspoken (es : List ValidationError) : Type 0 where
    pub verdict : VerdictSays v most iter_errors (is_empty es)
    pub given : All (IsGiven v false) es ⊎ OneFailure v most iter_errors (map (error_of true) es)
    pub undecided : ¬ (Decides v most iter_errors) → OneFailure v most iter_errors (map (error_of true) es)
    pub alone : branch_at v iter_errors [] ≡ None → ErrorsSay v most (map (error_of false) es)

  -- the same of a first error, or of none
  pub record FirstUnspoken (o : Option ValidationError) : Type 0 where
    pub verdict : VerdictSays v most validate (is_none o)
    pub given : IfSome o (λ e. IsGiven v false e ⊎ IsFailure v most validate (error_of true e))
    pub undecided : ¬ (Decides v most validate) → (e : Error) × IsFailure v most validate e × (option_map (error_of true) o ≡ Some e)
    pub alone : branch_at v validate [] ≡ None → FirstSays v most (option_map (error_of false) o)

  -- where errors come from, whatever they point at: each is one that some outcome produces, or the
  -- call returns its one failure; the latter if it does not decide
  abbrev pub EachIsGiven : Bool → List ValidationError → Type 0
  EachIsGiven texts es = Either (Decides v most iter_errors) (All (IsGiven v texts) es ⊎ OneFailure v most iter_errors (map (error_of true) es)) (OneFailure v most iter_errors (map (error_of true) es))

  -- the same of a first error
  abbrev pub FirstIsGiven : Bool → Option ValidationError → Type 0
  FirstIsGiven texts None = Unit {0}
  FirstIsGiven texts (Some e) = Either (Decides v most validate) (IsGiven v texts e ⊎ IsFailure v most validate (error_of true e)) (IsFailure v most validate (error_of true e))

  -- the statements that the contracts of the two calls cite, whether texts are covered or not
  abbrev pub ErrorsAnswered : Bool → List ValidationError → Type 0
  ErrorsAnswered true es = ErrorsSay v most (map (error_of true) es)
  ErrorsAnswered false es = ErrorsUnspoken es

  abbrev pub FirstAnswered : Bool → Option ValidationError → Type 0
  FirstAnswered true o = FirstSays v most (option_map (error_of true) o)
  FirstAnswered false o = FirstUnspoken o
