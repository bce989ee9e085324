-- What a run under assumptions says of every completion that extends them.
use Rattle.std.specs.List.{list_all}
use Rattle.std.specs.Prelude.{Bool, Contains, List, None, Some, [], false, filter, find, is_some, not, slice_get, true, ℕ, ◌++◌, ◌+◌, ◌∷◌, ◌≡◌}
use Rattle.theory_definitions.specs.Reports.{Error, Outcome, Unit_, report_of}
use Rattle.theory_definitions.specs.Instance.{Text}
use Rattle.theory_definitions.specs.Matching.{Assumptions, Completion, Extends, Matcher, Pair, Reason, assumed, completion_of, finished, unfinished}
use Rattle.theory_definitions.specs.Keywords.{Mode, for_all, for_first, for_units, for_verdict}
use Rattle.theory_definitions.specs.Runs.{Met, Run, first_error}
use Rattle.theory_definitions.specs.Cover.{Call, IsRun, Sense, assuming, branch_at, mode_of}
use Rattle.theory_meaning.specs.Shared.{errors_of, in_each}
use Rattle.theory_definitions.specs.Laws.{Agrees}

-- The run meets only unfinished matches that are assumed.
abbrev pub AllAssumed : Assumptions → List Met → Type 0
AllAssumed as' ms = find (λ m. not (is_some (assumed as' m.pair))) ms ≡ None

-- Two outcomes have the same result in a mode.
abbrev pub SameIn : Mode → Outcome → Outcome → Type 0
SameIn for_verdict a b = a.verdict ≡ b.verdict
SameIn for_first a b = first_error a.errors ≡ first_error b.errors
SameIn for_all a b = a.errors ≡ b.errors
SameIn for_units a b = a.verdict ≡ b.verdict

-- Two outcomes differ at most in their errors.
pub record SaysAlike (a b : Outcome) : Type 0 where
  pub verdict : a.verdict ≡ b.verdict
  pub spans : a.spans ≡ b.spans

-- A run under assumptions speaks for an outcome and units: if it meets, in a mode, only matches
-- that are assumed, it has the same result in that mode; and if it meets only such matches in its
-- run for its span, it has the same verdict and spans the same.
pub record Speaks (as' : Assumptions) (r : Run) (o : Outcome) (u : Unit_) : Type 0 where
  pub run_agrees : Agrees (r.outcome tt)
  pub agrees : Agrees o
  pub run_valid : (report_of (r.units tt)).valid ≡ (r.outcome tt).verdict
  pub valid : (report_of u).valid ≡ o.verdict
  pub in_mode : (mode : Mode) → AllAssumed as' (r.met mode) → SameIn mode (r.outcome tt) o
  pub units : AllAssumed as' (r.met for_units) → r.units tt ≡ u
  pub spanning : AllAssumed as' r.spanning → SaysAlike (r.outcome tt) o

-- A sense that behaves like a plain run: if a call's run meets only matches that are assumed, it
-- has, in its mode, the result of each completion that extends the assumptions.
pub record Follows (v : Sense) : Type 0 where
  pub agrees : (c : Completion) → Agrees (v.says c)
  pub speaks : (call : Call) (as' : Assumptions) (c : Completion) → Extends (completion_of as') as' → Extends c as'
      → AllAssumed as' (v.meets call as') → SameIn (mode_of call as') (v.says (completion_of as')) (v.says c)

-- ---- what the members of a cover yield

-- There is no error.
abbrev pub is_nil : List Error → Bool
is_nil [] = true
is_nil (e ∷ es) = false

-- The errors; if there are none, no error if `empty` is set, and one failure otherwise.
abbrev pub or_failure : List Error → Bool → Error → List Error
or_failure (e ∷ es) empty failure = e ∷ es
or_failure [] true failure = []
or_failure [] false failure = failure ∷ []

module _ (v : Sense) where
  -- The verdict of a member.
  abbrev pub verdict_of : Assumptions → Bool
  verdict_of m = (v.says (completion_of m)).verdict

  -- All members accept.
  abbrev pub all_accept : List Assumptions → Bool
  all_accept ms = list_all verdict_of ms

  -- The errors of the last member that every other member has too.
  abbrev pub shared_with : List Assumptions → Assumptions → List Error
  shared_with others last = filter (in_each v others) (errors_of v last)

  -- No member has an error.
  abbrev pub none_has : List Assumptions → Bool
  none_has ms = list_all (λ m. is_nil (errors_of v m)) ms

  -- The shared errors; if there are none, no error if no member has any, and one failure otherwise.
  abbrev pub listed : List Assumptions → Assumptions → Error → List Error
  listed others last failure = or_failure (shared_with others last) (none_has (others ++ last ∷ [])) failure

  -- A part of the cover that grows from a list, with the number of lists that are members or are
  -- still to be run.
  pub data Partly (call : Call) : Assumptions → ℕ → Type 0 where
    waits : {as' : Assumptions} → Partly call as' 1
    splits : {as' : Assumptions} {a b : ℕ} (m : Met) → branch_at v call as' ≡ Some m → Partly call (assuming m false as') a → Partly call (assuming m true as') b → Partly call as' (a + b)

-- The runs of a call branch only on these pairs.
abbrev pub BranchesAmong : Sense → Call → List Pair → Type 0
BranchesAmong v call pairs = (as' : Assumptions) (m : Met) → IsRun v call as' → branch_at v call as' ≡ Some m → Contains pairs m.pair

-- The matcher leaves this match unfinished.
abbrev pub IsUnfinished : Matcher → Met → Type 0
IsUnfinished matcher m = (reason : Reason) × (matcher.is_match m.pair.pattern m.pair.subject ≡ unfinished reason)

-- The matcher finishes every match.
abbrev pub Finishes : Matcher → Type 0
Finishes matcher = (pattern text : Text) → (b : Bool) × (matcher.is_match pattern text ≡ finished b)

-- ---- positions

-- No element occurs twice.
abbrev pub StandOnce : {A : Type 0} → List A → Type 0
StandOnce {A} xs = (i j : ℕ) (x : A) → slice_get xs i ≡ Some x → slice_get xs j ≡ Some x → i ≡ j

-- The completion extends the member at this position.
abbrev pub ExtendsAt : Completion → List Assumptions → ℕ → Type 0
ExtendsAt c ms i = (m : Assumptions) × (slice_get ms i ≡ Some m) × Extends c m

-- The lists under which a call runs, each once.
pub record RunsAre (v : Sense) (call : Call) (runs : List Assumptions) : Type 0 where
  pub each : (as' : Assumptions) → IsRun v call as' → Contains runs as'
  pub only : (as' : Assumptions) → Contains runs as' → IsRun v call as'
  pub once : StandOnce runs
