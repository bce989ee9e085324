-- The cover of a call: lists of assumptions that distinguish the possible outcomes of the
-- unfinished matches that its runs meet. A call decides if the runs for its cover are within its
-- limit. A cover is a relation, which lists the members that assume a no first. That a run returns
-- the assumptions it was given is a premise inside the clauses, so a caller need not know it.
use Rattle.std.specs.Prelude.{Bool, List, None, Option, Some, [], false, find, is_some, length, not, true, ℕ, ◌*◌, ◌+◌, ◌++◌, ◌∷◌, ◌≡◌, ◌≤◌}
use Rattle.serde_json.specs.Data.{Data}
use Rattle.theory_definitions.specs.Instance.{Text}
use Rattle.theory_definitions.specs.Reports.{Outcome}
use Rattle.theory_definitions.specs.Matching.{Assumptions, Completion, Match, assumed}
use Rattle.theory_definitions.specs.Keywords.{Mode, for_all, for_first, for_units, for_verdict}
use Rattle.theory_definitions.specs.Parts.{Parts}
use Rattle.theory_definitions.specs.Plan.{Key}
use Rattle.theory_definitions.specs.Meaning.{unfold_}
use Rattle.theory_definitions.specs.Runs.{Met, run}

-- The four calls of a validator.
pub data Call : Type 0 where
  is_valid validate iter_errors evaluate : Call

-- The first run of a call has the mode of the call. The later runs of `validate` and `evaluate`
-- collect all errors.
abbrev pub mode_of : Call → Assumptions → Mode
mode_of is_valid as' = for_verdict
mode_of iter_errors as' = for_all
mode_of validate [] = for_first
mode_of validate (a ∷ as') = for_all
mode_of evaluate [] = for_units
mode_of evaluate (a ∷ as') = for_all

-- What a schema says of an instance under each completion, and which unfinished matches the runs of
-- a call meet.
pub record Sense : Type 0 where
  pub says : Completion → Outcome
  pub meets : Call → Assumptions → List Met
  pub is_match : Text → Text → Match

-- The sense of a schema with every reference resolved afresh, n deep.
abbrev pub plain : {S K R : Type 0} → Parts S K R → Data → ℕ → Key S → Sense
plain w instance n root = record { says = λ c. unfold_ w instance c n root [] []; meets = λ call as'. (run w instance as' n root [] []).met (mode_of call as'); is_match = w.matcher.is_match }

-- These assumptions and one more, of the outcome of a match.
abbrev pub assuming : Met → Bool → Assumptions → Assumptions
assuming m b as' = record { pair = m.pair; outcome = b } ∷ as'

module _ (v : Sense) where
  -- The first unfinished match that a run meets and that is not assumed.
  abbrev pub branch_at : Call → Assumptions → Option Met
  branch_at call as' = find (λ m. not (is_some (assumed as' m.pair))) (v.meets call as')

  -- The members of a cover that grow from a list of assumptions; those that assume a no come first.
  -- The run under a member meets no unfinished match that the member does not assume.
  pub data Cover (call : Call) : Assumptions → List Assumptions → Type 0 where
    whole : {as' : Assumptions} → branch_at call as' ≡ None → Cover call as' (as' ∷ [])
    split : {as' : Assumptions} {no yes : List Assumptions} (m : Met) → branch_at call as' ≡ Some m → Cover call (assuming m false as') no → Cover call (assuming m true as') yes → Cover call as' (no ++ yes)

  -- The lists of assumptions under which a call runs: one for each member of its cover, and one for
  -- each branching.
  pub data IsRun (call : Call) : Assumptions → Type 0 where
    first_run : IsRun call []
    further : {as' : Assumptions} (m : Met) (b : Bool) → IsRun call as' → branch_at call as' ≡ Some m → IsRun call (assuming m b as')

  -- A call that makes at most this many runs decides if its cover takes no more. A cover of L
  -- members takes 2 L - 1 runs.
  abbrev pub Decides : ℕ → Call → Type 0
  Decides limit call = (members : List Assumptions) × Cover call [] members × (2 * length members ≤ limit + 1)
