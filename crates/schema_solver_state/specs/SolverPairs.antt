-- A pair of a node and a place in a solver's context: what is known of it, and how the context
-- changes.
use Rattle.std.specs.Prelude.{[], IfOk, List, None, OnErr, Result, Some, false, is_some, true, ℕ, ◌++◌, ◌∷◌, ◌≡◌}
use Rattle.serde_json.specs.View.{view}
use Rattle.theory_definitions.specs.Instance.{Place, subject_at}
use Rattle.schema_places.specs.Numbers.{number_of}
use Rattle.schema_run_context.specs.Progress.{EndsWith}
use Rattle.schema_run_context.specs.Verdicts.{verdict_of}
use Rattle.schema_run_steps.specs.EvaluationPlaces.{CarriesItsNumber, steps_to}
use Rattle.schema_run_steps.specs.declared.evaluation_place.EvaluationPlace.{EvaluationPlace}
use Rattle.schema_solver_state.specs.Answering.{Accepts, Begins, IsFound, KeepsRest, Refuses}
use Rattle.schema_solver_state.specs.Contexts.{Solver, has_pair, solver_places}
use Rattle.schema_solver_state.specs.Saying.{WhatIsSaid}
use Rattle.schema_solver_state.specs.declared.pair.SolverPair.{SolverPair}

-- its place
abbrev pub place_of : SolverPair → Place
place_of p = steps_to p.place.now

-- the number is that of the place
abbrev pub IsNumbered : List Place → SolverPair → Type 0
IsNumbered places p = number_of (place_of p) places ≡ Some p.number

-- ---- in a context

module _ (c : Solver) (place : EvaluationPlace) where
  -- the place carries its number among those of the instance
  abbrev pub CarriesNumber : Type 0
  CarriesNumber = CarriesItsNumber (solver_places c) place

  -- it is one of the instance
  abbrev pub IsInside : Type 0
  IsInside = is_some (subject_at (view c.root) (steps_to place)) ≡ true

module _ (p : SolverPair) (c : Solver) where
  -- the number is that of the place among those of the instance
  abbrev pub HasItsNumber : Type 0
  HasItsNumber = IsNumbered (solver_places c) p

  -- this is found of it
  abbrev pub PairIsFound : WhatIsSaid → Type 0
  PairIsFound = IsFound p.node.0 (place_of p) c

  -- no verdict of it is known
  abbrev pub IsUnknown : Type 0
  IsUnknown = verdict_of p.node.0 (place_of p) c.verdicts ≡ None

  -- it is not in progress
  abbrev pub IsIdle : Type 0
  IsIdle = has_pair c.in_progress p.node.0 (place_of p) ≡ false

  -- it is not assumed
  abbrev pub IsFree : Type 0
  IsFree = has_pair c.assumed p.node.0 (place_of p) ≡ false

  -- it is the last in progress
  abbrev pub IsLast : Type 0
  IsLast = EndsWith p.node.0 (place_of p) c.in_progress

module _ (p : SolverPair) (old new : Solver) where
  -- it is begun
  abbrev pub PairBegins : Type 0
  PairBegins = Begins p.node.0 (place_of p) old new

  -- it was the last in progress, and is so no longer
  abbrev pub PairLeaves : Type 0
  PairLeaves = old.in_progress ≡ new.in_progress ++ (p.node.0, place_of p) ∷ []

  -- an "invalid" of it is kept, with the mark
  abbrev pub PairRefuses : ℕ → Type 0
  PairRefuses mark = Refuses p.node.0 (place_of p) mark old new

  -- a "valid" of it is kept, with the mark: this was the node's answer, and this is the pair's
  -- answer from now on
  abbrev pub PairAccepts : ℕ → WhatIsSaid → WhatIsSaid → Type 0
  PairAccepts mark said now = Accepts p.node.0 (place_of p) mark said now old new

-- the node's answer is kept, with the mark, and the pair's answer is returned; or there is an
-- error, and after an "invalid" nothing has changed
pub record KeepsAnswer {E : Type 0} (p : SolverPair) (mark : ℕ) (said : WhatIsSaid) (old new : Solver) (result : Result WhatIsSaid E) : Type 0 where
  pub valid : IfOk result (λ now. now.valid ≡ said.valid)
  pub refused : IfOk result (λ now. said.valid ≡ false → PairRefuses p old new mark)
  pub accepted : IfOk result (λ now. said.valid ≡ true → PairAccepts p old new mark said now)
  pub unchanged : OnErr result (said.valid ≡ false → new ≡ old)
  pub assumed : OnErr result (new.assumed ≡ old.assumed)
  pub rest : KeepsRest old new
