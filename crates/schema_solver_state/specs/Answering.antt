-- How a solver begins: with nothing found. How a pair begins, and what happens to it when its node
-- has been run and the pair is left.
use Rattle.std.specs.Prelude.{[], Some, drop, false, take, true, ℕ, ◌++◌, ◌||◌, ◌∷◌, ◌≡◌, ◌⊎◌}
use Rattle.serde_json.specs.declared.value.Value.{Value}
use Rattle.theory_definitions.specs.Instance.{Place}
use Rattle.schema_run_context.specs.Verdicts.{Remembers, one_more, verdict_of}
use Rattle.schema_solver_state.specs.Contexts.{SettlesAll, Solver, has_pair}
use Rattle.schema_solver_state.specs.Saying.{WhatIsSaid}

-- nothing is in progress, assumed, known or marked, and no pair was begun
abbrev pub fresh : Value → Solver
fresh v = record { root = v; in_progress = []; assumed = []; verdicts = []; marking = []; begun = 0 }

-- what is known of a pair: its final verdict, or a provisional "valid" if it is in progress or
-- assumed
abbrev pub IsFound : ℕ → Place → Solver → WhatIsSaid → Type 0
IsFound i p c s = ((verdict_of i p c.verdicts ≡ Some s.valid) × (s.leans ≡ false))
    ⊎ ((s.valid ≡ true) × (s.leans ≡ true) × ((has_pair c.in_progress i p || has_pair c.assumed i p) ≡ true))

-- a pair is begun: it goes last among those in progress, and is counted
pub record Begins (i : ℕ) (p : Place) (old new : Solver) : Type 0 where
  pub root : new.root ≡ old.root
  pub in_progress : new.in_progress ≡ old.in_progress ++ (i, p) ∷ []
  pub assumed : new.assumed ≡ old.assumed
  pub verdicts : new.verdicts ≡ old.verdicts
  pub marking : new.marking ≡ old.marking
  pub begun : new.begun ≡ one_more old.begun

-- nothing changes except what is assumed and what is known
pub record KeepsRest (old new : Solver) : Type 0 where
  pub root : new.root ≡ old.root
  pub in_progress : new.in_progress ≡ old.in_progress
  pub marking : new.marking ≡ old.marking
  pub begun : new.begun ≡ old.begun

-- all stays but the pairs in progress
pub record OnlyPairs (old new : Solver) : Type 0 where
  pub root : new.root ≡ old.root
  pub assumed : new.assumed ≡ old.assumed
  pub verdicts : new.verdicts ≡ old.verdicts
  pub marking : new.marking ≡ old.marking
  pub begun : new.begun ≡ old.begun

-- all stays but the marks
pub record OnlyMarks (old new : Solver) : Type 0 where
  pub root : new.root ≡ old.root
  pub in_progress : new.in_progress ≡ old.in_progress
  pub assumed : new.assumed ≡ old.assumed
  pub verdicts : new.verdicts ≡ old.verdicts
  pub begun : new.begun ≡ old.begun

-- the mark is how many pairs were assumed before it: no pair is assumed both before and since
abbrev pub IsApart : ℕ → Solver → Type 0
IsApart mark c = (i : ℕ) (p : Place) → has_pair (drop mark c.assumed) i p ≡ true → has_pair (take mark c.assumed) i p ≡ false

-- an "invalid": it is remembered, and what was assumed since the mark is dropped
abbrev pub Refuses : ℕ → Place → ℕ → Solver → Solver → Type 0
Refuses i p mark old new = (new.assumed ≡ take mark old.assumed) × Remembers i p false old.verdicts new.verdicts

-- no pair is in progress at the place
abbrev pub IsAlone : Place → Solver → Type 0
IsAlone p c = (k : ℕ) → has_pair c.in_progress k p ≡ false

-- a "valid" while no other pair is in progress at the place: it is known for good, and so is all
-- that was assumed since the mark, which is assumed no longer
abbrev pub SettlesAlone : ℕ → Place → ℕ → Solver → Solver → Type 0
SettlesAlone i p mark old new = IsAlone p old
    × (new.assumed ≡ take mark old.assumed) × SettlesAll ((i, p) ∷ drop mark old.assumed) old.verdicts new.verdicts

-- another pair is in progress at the place
abbrev pub IsBeside : Place → Solver → Type 0
IsBeside p c = (k : ℕ) × (has_pair c.in_progress k p ≡ true)

-- a provisional "valid", beside another pair in progress at the place: it is assumed, after all
-- others
abbrev pub AssumesBeside : ℕ → Place → Solver → Solver → Type 0
AssumesBeside i p old new = IsBeside p old × (new.assumed ≡ old.assumed ++ (i, p) ∷ []) × (new.verdicts ≡ old.verdicts)

-- a final "valid", beside another pair: it alone is remembered, and what was assumed stays assumed
abbrev pub SettlesBeside : ℕ → Place → Solver → Solver → Type 0
SettlesBeside i p old new = IsBeside p old × (new.assumed ≡ old.assumed) × Remembers i p true old.verdicts new.verdicts

-- so a "valid" is kept; the pair's answer from then on is "valid", and provisional if it is assumed
abbrev pub Accepts : ℕ → Place → ℕ → WhatIsSaid → WhatIsSaid → Solver → Solver → Type 0
Accepts i p mark said now old new = (SettlesAlone i p mark old new × (now.leans ≡ false))
    ⊎ ((AssumesBeside i p old new × (now.leans ≡ true))
    ⊎ (SettlesBeside i p old new × (said.leans ≡ false) × (now.leans ≡ false)))
