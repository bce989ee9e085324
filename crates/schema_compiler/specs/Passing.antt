-- The effect of one step on the table: a number is added, or an edge is made.
use Rattle.std.specs.Prelude.{Bool, List, None, Option, Some, [], not, slice_get, ℕ, ◌++◌, ◌||◌, ◌∷◌, ◌≡◌}
use Rattle.schema_node_table.specs.NodeTable.{NodeEntry, guards_at, is_settled_entry}
use Rattle.schema_compiler.specs.declared.compiler.compilation.Progress.{Progress}

-- a node without a form is appended, in this round or waiting
abbrev pub Numbered : {C : Type 0} → List (NodeEntry C) → Option ℕ → List (NodeEntry C) → Type 0
Numbered {C} old round new = (n : NodeEntry C) × (new ≡ old ++ n ∷ []) × (n.plan ≡ None) × (n.round ≡ round)

-- an edge is made to a number: it is guarded as the state of the number requires, and it is
-- recorded if the number is not final
pub record PassesTo {C : Type 0} (nodes : List (NodeEntry C)) (i : ℕ) (old new : Progress) (guarded : Bool) : Type 0 where
  pub entry : NodeEntry C
  pub at : slice_get nodes i ≡ Some entry
  pub guard : guarded ≡ guards_at old.round entry
  pub loose : new.reaches_unsettled ≡ (old.reaches_unsettled || not (is_settled_entry entry))
  pub same_round : new.round ≡ old.round
  pub same_depth : new.depth ≡ old.depth
