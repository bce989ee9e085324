-- What holds after a new key gets the next number.
use Rattle.std.specs.Prelude.{Bool, None, Option, Some, [], false, if◌then◌else◌, length, map, suc, ℕ, ◌++◌, ◌∷◌, ◌≡◌}
use Rattle.theory_definitions.specs.Plan.{Key}
use Rattle.theory_definitions.specs.Resolving.{Resolver}
use Rattle.schema_node_table.specs.NodeTable.{NodeEntry}
use Rattle.schema_keys.specs.Compiling.{resolving_parts}
use Rattle.schema_keys.specs.KeyViews.{key_of}
use Rattle.schema_keys.specs.ShownBases.{shown_base}
use Rattle.schema_keys.specs.declared.key.SchemaKey.{SchemaKey}
use Rattle.schema_compiler.specs.Carried.{IsWell, Task, filled}
use Rattle.schema_compiler.specs.Passing.{Numbered}
use Rattle.schema_compiler.specs.UnderWay.{IsUnderWay}
use Rattle.schema_compiler.specs.declared.compiler.compilation.Compilation.{Compilation}

-- the node of a new key: in progress in this round, or waiting
abbrev pub node_begun : {S P C : Type 0} → Resolver P → (S → P) → SchemaKey S → Option ℕ → NodeEntry C
node_begun resolving point key round = record {
  location = key.location;
  base = shown_base (resolving_parts resolving) (key_of point key);
  start = key.resource_start;
  round = round;
  order = 0;
  settled = false;
  annotations = None;
  plan = None;
}

module _ {S P K C : Type 0} (g : Task P K C) (point : S → P) (old new : Compilation S C) (k : Key P) where
  -- the key has this number, with a node in progress in this round or waiting; nothing else changes
  pub record TakesNext (round : Option ℕ) (n : ℕ) : Type 0 where
    pub table : IsWell g (filled point new)
    pub keys : map (key_of point) new.keys ≡ map (key_of point) old.keys ++ k ∷ []
    pub nodes : Numbered old.nodes round new.nodes
    pub progress : new.progress ≡ old.progress
    pub reserved : new.reservations ≡ old.reservations
    pub number : n ≡ length old.nodes

  -- the key has this number and is open: what is made from now on is made inside it
  pub record BeginsNext (nests : Bool) (n : ℕ) : Type 0 where
    pub table : IsWell g (filled point new)
    pub under_way : IsUnderWay g (filled point new)
    pub keys : map (key_of point) new.keys ≡ map (key_of point) old.keys ++ k ∷ []
    pub nodes : Numbered old.nodes (Some old.progress.round) new.nodes
    pub round : new.progress.round ≡ old.progress.round
    pub depth : new.progress.depth ≡ (if nests then suc old.progress.depth else old.progress.depth)
    pub settled : new.progress.reaches_unsettled ≡ false
    pub reserved : new.reservations ≡ old.reservations
    pub number : n ≡ length old.nodes
