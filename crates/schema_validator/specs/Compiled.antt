-- Nodes that are compiled from a key, a root's or that of a subschema by itself: they have one
-- number for each key that it reaches.
use Rattle.std.specs.Prelude.{◌≡◌, ℕ, List, Some, map, length, slice_get}
use Rattle.theory_definitions.specs.Parts.{Parts}
use Rattle.theory_definitions.specs.Plan.{Key}
use Rattle.theory_meaning.specs.Reach.{Reached}
use Rattle.theory_definitions.specs.Guarded.{NodePlan}
use Rattle.theory_meaning.specs.Numbered.{AreNumbered, Ranked}
use Rattle.schema_node_table.specs.NodeTable.{NodeEntry, numbered}
use Rattle.schema_compiler.specs.Finding.{FindsAll, GuardsByStanding, standing_of}

pub record IsCompiled {S K R C : Type 0} (w : Parts S K R) (shape : C → K) (root : Key S) (nodes : List (NodeEntry C)) (number : ℕ) : Type 0 where
  pub keys : List (Key S)
  pub lengths : length nodes ≡ length keys
  pub numbers : AreNumbered w (map Some keys) (numbered shape nodes)
  pub ranked : Ranked (numbered shape nodes) (length nodes)
  pub is_root : slice_get keys number ≡ Some root
  pub reached : (i : ℕ) (k : Key S) → slice_get keys i ≡ Some k → Reached w root k

-- the nodes are compiled, and numbers and keys correspond one to one: every number has its form,
-- and every key that the root reaches has a number. It says which edges are guarded, too: the keys
-- are found in the one order that the schema and the limit on nested targets determine, and an edge
-- is guarded exactly if, when it was made, its target was in progress, or had a number of an
-- earlier round that was not final
pub record IsWhole {S K R C : Type 0} (w : Parts S K R) (shape : C → K) (nested : ℕ) (root : Key S) (nodes : List (NodeEntry C)) (number : ℕ) : Type 0 where
  pub compiled : IsCompiled w shape root nodes number
  pub filled : (i : ℕ) (n : NodeEntry C) → slice_get nodes i ≡ Some n → (p : NodePlan C) × (n.plan ≡ Some p)
  pub whole : (k : Key S) → Reached w root k → (i : ℕ) × (slice_get compiled.keys i ≡ Some k)
  pub order : FindsAll w nested root compiled.keys (map standing_of nodes)
  pub guards : GuardsByStanding nodes
