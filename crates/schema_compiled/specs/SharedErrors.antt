-- The errors that all outcomes of the unfinished matches share, or the one in place of them: what
-- is known of them, by the call whose first run met such a match.
use Rattle.std.specs.Prelude.{All, Bool, List, [], map, slice_get, ◌≡◌}
use Rattle.serde_json.specs.Data.{Data}
use Rattle.theory_definitions.specs.Cover.{Call, evaluate, iter_errors, mode_of, validate}
use Rattle.theory_definitions.specs.Unfinished.{Remembered, starting}
use Rattle.theory_meaning.specs.Searched.{WantsAllLater}
use Rattle.schema_reports.specs.ReportViews.{BorrowsItsPlace, error_of}
use Rattle.schema_reports.specs.UnitViews.{unit_of}
use Rattle.schema_reports.specs.declared.evaluation.EvaluationNode.{EvaluationNode}
use Rattle.schema_reports.specs.declared.reports.ValidationError.{ValidationError}
use Rattle.schema_output.specs.ErrorUnits.{errors_unit}
use Rattle.schema_traits.specs.declared.keyword.Validate.{Ghosts as KeywordMembers}
use Rattle.schema_traits.specs.declared.matcher.Matcher.{Ghosts as MatcherMembers}
use Rattle.schema_compiled.specs.Asked.{ErrorsFromSomeDepth, EvaluatesFromSomeDepth, FirstFromSomeDepth, RunMeets}
use Rattle.schema_compiled.specs.Program.{Program}
use Rattle.schema_compiled.specs.Taken.{TakesByRuns}
use Rattle.schema_run_context.specs.Works.{Budget}

-- C is a keyword of the code, K what is known of it, M a matcher of the code
module _ {C Run K M : Type 0} (keywords : KeywordMembers C Run K) (matchers : MatcherMembers M) (p : Program C M) (instance : Data) (first : Remembered) where
  -- the first run was made for this call
  abbrev pub Begins : Call → Type 0
  Begins call = RunMeets keywords matchers p instance (mode_of call []) (starting []) first

  -- how much the runs of a call take, for each call for which the first run was made, if its
  -- further runs produce all errors
  abbrev pub TakesAsBegun : Budget → Budget → Type 0
  TakesAsBegun old new = (call : Call) → WantsAllLater call → Begins call → TakesByRuns keywords matchers p instance call old new

  pub record AreShared (es : List ValidationError) : Type 0 where
    -- they are the answer of `iter_errors`
    pub errors : Begins iter_errors → ErrorsFromSomeDepth keywords matchers p instance es
    -- the first of them is the answer of `validate`
    pub first_error : Begins validate → FirstFromSomeDepth keywords matchers p instance (slice_get es 0)
    -- units that are made of them are the answer of `evaluate`
    pub units : Begins evaluate → (u : EvaluationNode) → ((texts : Bool) → unit_of texts u ≡ errors_unit (map (error_of texts) es)) → EvaluatesFromSomeDepth keywords matchers p instance u
    -- each borrows the value at its place
    pub borrows : (call : Call) → WantsAllLater call → Begins call → All (BorrowsItsPlace instance) es
