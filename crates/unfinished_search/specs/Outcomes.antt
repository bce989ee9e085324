-- What the search returns.
use Rattle.std.specs.List.{list_all}
use Rattle.std.specs.Prelude.{Bool, List, Ok, Result, false, map, true, ℕ, ◌≡◌}
use Rattle.std.specs.Global.{Vec}
use Rattle.serde_json.specs.Data.{Data}
use Rattle.theory_definitions.specs.Reports.{Error}
use Rattle.schema_reports.specs.ReportViews.{error_of}
use Rattle.theory_meaning.specs.Search.{Cut, Made, Tree, Whole, results_of}
use Rattle.theory_definitions.specs.Unfinished.{Remembered}
use Rattle.unfinished_search.specs.SharedResults.{AreShared, OneError, is_empty}
use Rattle.schema_reports.specs.declared.reports.ValidationError.{ValidationError}
use Rattle.unfinished_search.specs.declared.search.Outcomes.{Outcomes}
use Rattle.unfinished_search.specs.declared.search.Outcomes.TheVariants as outcomes

-- a step of a search whose run returns what it remembers and its result
abbrev pub by_run : {S X M T E : Type 0} → (S → X → Result (M × T) E → S → Type 0) → S → X → M → T → S → Type 0
by_run Step start given remembered gives end = Step start given (Ok (remembered, gives)) end

module _ {S T : Type 0} (Step : S → Remembered → Remembered → T → S → Type 0) (first : Remembered) (start : S) (limit : ℕ) where
  -- either there is one result for each member of the cover that the runs grow, within the limit,
  -- or the limit is reached before the cover is whole; the state of the run at the end is the one
  -- after the last of the runs that grow the cover
  abbrev pub AreOutcomes : S → Outcomes T → Type 0
  AreOutcomes end (outcomes.Assumed results failure) = (tree : Tree T) × Made Step first start limit end tree failure × Whole Step first start limit tree × (results.items ≡ results_of tree)
  AreOutcomes end (outcomes.Undecided failure) = (tree : Tree T) × Made Step first start limit end tree failure × Cut Step first start limit tree

-- whether all results are `true`; `false` if the search was cut short
abbrev pub is_yes : Outcomes Bool → Bool
is_yes (outcomes.Assumed results failure) = list_all (λ b. b) results.items
is_yes (outcomes.Undecided failure) = false

-- the shared errors, or the failure as the only error; always the failure if the search was cut
-- short
abbrev pub AreErrors : Data → Outcomes (Vec ValidationError) → List ValidationError → Type 0
AreErrors root (outcomes.Assumed results failure) answer = AreShared root failure (map (λ (r : Vec ValidationError). r.items) results.items) answer
AreErrors root (outcomes.Undecided failure) answer = OneError root failure answer

-- the errors of a run in terms of the definitions, with their texts covered
abbrev pub errors_in : Vec ValidationError → List Error
errors_in es = map (error_of true) es.items

-- whether a run has no error
abbrev pub none_in : Vec ValidationError → Bool
none_in es = is_empty es.items
