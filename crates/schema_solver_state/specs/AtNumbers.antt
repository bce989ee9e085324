-- What a context knows of a pair, and how it changes: by the pair's node, and by the number of its
-- place.
use Rattle.std.specs.Prelude.{[], Bool, List, None, Option, drop, false, length, map, option_map, ℕ, ◌++◌, ◌<◌, ◌∷◌, ◌≡◌}
use Rattle.theory_definitions.specs.Instance.{Place}
use Rattle.theory_definitions.specs.Guarded.{same_edge}
use Rattle.theory_definitions.specs.Keywords.{Marked}
use Rattle.schema_places.specs.Numbers.{OwnNumbers, place_at}
use Rattle.schema_traits.specs.EdgeViews.{edge_of}
use Rattle.schema_traits.specs.declared.numbers.Edge.{Edge}
use Rattle.schema_traits.specs.declared.numbers.SchemaNode.{SchemaNode}
use Rattle.schema_run_context.specs.Progress.{EndsWith}
use Rattle.schema_run_context.specs.Verdicts.{Remembers, verdict_of}
use Rattle.schema_solver_state.specs.Answering.{Accepts, AssumesBeside, Begins, IsAlone, IsBeside, IsFound, Refuses, SettlesBeside}
use Rattle.schema_solver_state.specs.Contexts.{SettlesAll, Solver, has_pair, solver_places}
use Rattle.schema_solver_state.specs.Saying.{WhatIsSaid}

-- each number of its places is that of the place that has it
abbrev pub HasOwnNumbers : Solver → Type 0
HasOwnNumbers c = OwnNumbers (solver_places c)

-- the place of a number
abbrev pub place_in : Solver → ℕ → Place
place_in c k = place_at (solver_places c) k

module _ (place : ℕ) (c : Solver) where
  -- a place has the number
  abbrev pub IsKnown : Type 0
  IsKnown = place < length (solver_places c)

  -- no pair is in progress at its place, or one is
  abbrev pub IsAloneAt : Type 0
  IsAloneAt = IsAlone (place_in c place) c

  abbrev pub IsBesideAt : Type 0
  IsBesideAt = IsBeside (place_in c place) c

-- ---- what is found of a pair

module _ (node : SchemaNode) (place : ℕ) (c : Solver) where
  -- this is found of it
  abbrev pub FoundAt : WhatIsSaid → Type 0
  FoundAt = IsFound node.0 (place_in c place) c

  -- no verdict of it is known
  abbrev pub IsUnknownAt : Type 0
  IsUnknownAt = verdict_of node.0 (place_in c place) c.verdicts ≡ None

  -- it is not in progress
  abbrev pub IsIdleAt : Type 0
  IsIdleAt = has_pair c.in_progress node.0 (place_in c place) ≡ false

  -- it is not assumed
  abbrev pub IsFreeAt : Type 0
  IsFreeAt = has_pair c.assumed node.0 (place_in c place) ≡ false

  -- it is the last in progress
  abbrev pub IsLastAt : Type 0
  IsLastAt = EndsWith node.0 (place_in c place) c.in_progress

-- ---- what happens to a pair

module _ (node : SchemaNode) (place : ℕ) (old new : Solver) where
  -- it is begun
  abbrev pub BeginsAt : Type 0
  BeginsAt = Begins node.0 (place_in old place) old new

  -- it was the last in progress, and is so no longer
  abbrev pub LeavesAt : Type 0
  LeavesAt = old.in_progress ≡ new.in_progress ++ (node.0, place_in old place) ∷ []

  -- its verdict is remembered
  abbrev pub RemembersAt : Bool → Type 0
  RemembersAt verdict = Remembers node.0 (place_in old place) verdict old.verdicts new.verdicts

  -- it goes last among those that are assumed
  abbrev pub AssumesAt : Type 0
  AssumesAt = new.assumed ≡ old.assumed ++ (node.0, place_in old place) ∷ []

  -- "valid" is remembered for it, and for all that was assumed since the mark
  abbrev pub SettlesAt : ℕ → Type 0
  SettlesAt mark = SettlesAll ((node.0, place_in old place) ∷ drop mark old.assumed) old.verdicts new.verdicts

  -- an "invalid" of it is kept, with the mark
  abbrev pub RefusesAt : ℕ → Type 0
  RefusesAt mark = Refuses node.0 (place_in old place) mark old new

  -- a "valid" of it is kept, with the mark: this was the node's answer, and this is the pair's
  -- answer from now on
  abbrev pub AcceptsAt : ℕ → WhatIsSaid → WhatIsSaid → Type 0
  AcceptsAt mark said now = Accepts node.0 (place_in old place) mark said now old new

  -- a "valid" of it is kept beside another pair at its place, whether it is provisional or not
  abbrev pub AssumesBesideAt : Type 0
  AssumesBesideAt = AssumesBeside node.0 (place_in old place) old new

  abbrev pub SettlesBesideAt : Type 0
  SettlesBesideAt = SettlesBeside node.0 (place_in old place) old new

-- ---- marks

-- two are one mark by the edges that these children got
abbrev pub same_mark : List (Option Edge) → Marked → Marked → Bool
same_mark children = same_edge (map (option_map edge_of) children)
