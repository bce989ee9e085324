-- The progress of the worklist: the numbers below one have their forms, and each other one has its
-- form or waits.
use Rattle.std.specs.Prelude.{Some, [], length, slice_get, ℕ, ◌<◌, ◌≡◌, ◌≤◌}
use Rattle.theory_definitions.specs.Plan.{Key}
use Rattle.theory_meaning.specs.Reach.{Reached}
use Rattle.schema_node_table.specs.NodeTable.{IsFilled, NodeEntry}
use Rattle.schema_keys.specs.Compiling.{Each, StandsBelow}
use Rattle.schema_compiler.specs.Reserving.{IsGivenUp}
use Rattle.schema_keys.specs.Refusing.{IsRefusal}
use Rattle.schema_compiler.specs.Filling.{IsGrown}
use Rattle.schema_compiler.specs.Finding.{Course, WorksOff, at_root}
use Rattle.schema_compiler.specs.Carried.{IsWell, Table, Task}
use Rattle.schema_compiler.specs.UnderWay.{IsUnderWay, course_of}
use Rattle.schema_keys.specs.declared.error.BuildError.{BuildError}

module _ {S K C : Type 0} (g : Task S K C) (root : Key S) where
  -- the list is worked off up to this number
  pub record IsAtNumber (t : Table S C) (i : ℕ) : Type 0 where
    pub table : IsWell g t
    pub under_way : IsUnderWay g t
    pub grown : IsGrown (Reached g.parts root) [] t.keys [] t.nodes
    pub below : (j : ℕ) → j < i → j < length t.nodes → IsFilled t.nodes j
    -- each round so far began with a lower number
    pub rounds : (j r : ℕ) (n : NodeEntry C) → slice_get t.nodes j ≡ Some n → n.round ≡ Some r → r < i
    pub first : slice_get t.keys 0 ≡ Some root
    -- no reservation is in force
    pub given_up : Each IsGivenUp t.reserved
    -- the rest of the work completes the whole
    pub order : (c : Course S) → WorksOff g.parts g.nested i (course_of t) c → WorksOff g.parts g.nested 0 (at_root root) c

  -- the list is worked off
  abbrev pub IsWorkedOff : Table S C → Type 0
  IsWorkedOff t = (i : ℕ) × (length t.keys ≤ i) × IsAtNumber t i

  -- a refusal of the root's key, when nothing is numbered
  abbrev pub RefusesRootKey : BuildError → Type 0
  RefusesRootKey e = IsRefusal g.limit [] (Reached g.parts root) (StandsBelow g.parts root) e
