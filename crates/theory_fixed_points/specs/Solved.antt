-- What a solver says at the end, with no pair in progress: the same as numbered nodes under guards,
-- and, if keywords are monotone, the greatest solution.
use Rattle.std.specs.Prelude.{Bool, None, [], false, true, ℕ, ◌<◌, ◌↔◌, ◌≡◌}
use Rattle.theory_definitions.specs.Instance.{Place, Text}
use Rattle.theory_definitions.specs.Guarded.{guarded_within, node_outcome, yes_outcome}
use Rattle.theory_meaning.specs.Numbered.{left, subject_in}
use Rattle.theory_fixed_points.specs.NodesSay.{NodeAcceptsGreatest}
use Rattle.theory_fixed_points.specs.Under.{EachMonotone, Solving, IsSolvable}
use Rattle.theory_fixed_points.specs.Found.{Found, IsSound, SaysUnder}
use Rattle.theory_fixed_points.specs.Stages.{IsStaged, Tells}

-- Nothing is found yet.
abbrev pub nothing_found : Found
nothing_found = record { busy = λ i p. false; assumed = λ i p. false; known = λ i p. None }

-- No pair is in progress.
abbrev pub IsIdle : Found → Type 0
IsIdle f = (i : ℕ) (p : Place) → f.busy i p ≡ false

module _ {K R : Type 0} (w : Solving K R) where
  -- What the solver says of a number, with no pair in progress.
  abbrev pub SolverSays : ℕ → Place → Bool → Type 0
  SolverSays i p b = (f : Found) × IsStaged w f × IsIdle f × Tells w f i p b true

  -- The solver says what the nodes say under guards, at every sufficient depth and with any path.
  abbrev pub SolverSaysGuarded : Type 0
  SolverSaysGuarded = IsSolvable w → (i : ℕ) (p : Place) (b : Bool) → i < w.count → SolverSays i p b
      → (path : Text) (n : ℕ) → left w.nodes w.count i (subject_in w.instance p) [] < n
      → (guarded_within yes_outcome (node_outcome w.keywords w.matcher w.nodes (subject_in w.instance) w.completion) n i path p []).verdict ≡ b

  -- If each keyword is monotone, the solver says yes if and only if the greatest solution contains
  -- the pair.
  abbrev pub SolverSaysGreatest : Type 0
  SolverSaysGreatest = IsSolvable w → EachMonotone w → (i : ℕ) (p : Place) (b : Bool) → i < w.count → SolverSays i p b
      → (b ≡ true) ↔ NodeAcceptsGreatest w.keywords w.matcher w.nodes (subject_in w.instance) w.completion w.count i p

  -- If each keyword is monotone, what is found by stages is sound.
  abbrev pub StagedIsSound : Type 0
  StagedIsSound = IsSolvable w → EachMonotone w → (f : Found) → IsStaged w f → IsSound w f

  -- A number says the same under each set that contains all pairs that count as yes, and none that
  -- was refused.
  abbrev pub TellsUnderSets : Type 0
  TellsUnderSets = (f : Found) (i : ℕ) (p : Place) (b : Bool) → Tells w f i p b true → SaysUnder w f i p b
