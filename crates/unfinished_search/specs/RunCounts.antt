-- How many runs a call makes, by what its sense meets.
use Rattle.std.specs.Prelude.{length, ℕ, suc, ◌*◌, ◌+◌, ◌≡◌, ◌⊎◌}
use Rattle.theory_definitions.specs.Cover.{Call, Decides, Sense}
use Rattle.theory_definitions.specs.Unfinished.{Remembered}
use Rattle.theory_meaning.specs.Search.{Uses}

module _ (v : Sense) (limit : ℕ) (call : Call) where
  -- the number of runs that the call makes: if it decides, one for each member of its cover and one
  -- for each branching, so 2 L - 1 for L members; otherwise as many as the limit allows
  abbrev pub MakesRuns : ℕ → Type 0
  MakesRuns n = ((decides : Decides v limit call) × (n + 1 ≡ 2 * length decides.0)) ⊎ (¬ (Decides v limit call) × (n ≡ limit))

  -- exactly the call's further runs, those after the first, lead from one state of the run to the
  -- other, one after another
  abbrev pub MakesFurther : {S T : Type 0} → (S → Remembered → Remembered → T → S → Type 0) → S → S → Type 0
  MakesFurther {T = T} Step start end = (n : ℕ) × Uses (λ s x (y : Remembered × T) s'. Step s x y.0 y.1 s') start n end × MakesRuns (suc n)
