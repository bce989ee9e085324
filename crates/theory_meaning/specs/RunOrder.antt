-- The order in which a call makes its runs, and so the runs that it makes within its limit. At any
-- time some lists of assumptions wait, and the call runs the first of them next. The order matters
-- because a failure has a site of a run that the call makes within its limit.
use Rattle.std.specs.Prelude.{List, None, Option, Some, [], false, suc, true, zero, ℕ, ◌<◌, ◌∷◌, ◌≡◌}
use Rattle.theory_definitions.specs.Matching.{Assumptions}
use Rattle.theory_definitions.specs.Runs.{Met}
use Rattle.theory_definitions.specs.Cover.{Call, Decides, IsRun, Sense, assuming, branch_at}

-- The lists that take the place of a list after its run: none if the run does not branch; otherwise
-- first the list that also assumes a no for the match, then the list that also assumes a yes.
abbrev pub grown_from : Assumptions → Option Met → List Assumptions → List Assumptions
grown_from as' None rest = rest
grown_from as' (Some m) rest = assuming m false as' ∷ (assuming m true as' ∷ rest)

module _ (v : Sense) where
  -- The lists that wait after the first of these is run.
  abbrev pub once_run : Call → List Assumptions → List Assumptions
  once_run call [] = []
  once_run call (as' ∷ rest) = grown_from as' (branch_at v call as') rest

  -- The lists that wait after n runs. At first only the empty list waits.
  abbrev pub waiting_after : Call → ℕ → List Assumptions
  waiting_after call zero = [] ∷ []
  waiting_after call (suc n) = once_run call (waiting_after call n)

  -- A call that makes at most `most` runs makes this one.
  abbrev pub IsMade : ℕ → Call → Assumptions → Type 0
  IsMade most call as' = (n : ℕ) × (n < most) × (rest : List Assumptions) × (waiting_after call n ≡ as' ∷ rest)

-- Each run that a call makes is one of its runs, and a call that decides makes each of them.
abbrev pub MakesItsRuns : Type 0
MakesItsRuns = (v : Sense) (call : Call) (limit : ℕ) (as' : Assumptions) → (IsMade v limit call as' → IsRun v call as') × (Decides v limit call → IsRun v call as' → IsMade v limit call as')
