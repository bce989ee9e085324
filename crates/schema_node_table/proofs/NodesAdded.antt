-- A number that is reserved and gets its form at once.
use Rattle.std.proofs.Common.{◌≡◌, ℕ, ◌++◌, List, [], ◌∷◌, length, sym, ◌∙◌, ap, subst, false}
use Rattle.std.specs.Prelude.{Option, Some, None, slice_get, slice_set}
use Rattle.serde_json.specs.declared.value.Value.{Value}
use Rattle.theory_definitions.specs.Guarded.{NodePlan}
use Rattle.schema_node_table.specs.NodeTable.{NodeEntry, Adds, AreFilled, Fills, IsOrdered, MayBeFilled, filled, filled_count}
use Rattle.schema_node_table.proofs.NodePlaces.{some_is, get_end, set_end}
use Rattle.schema_node_table.proofs.NodeCounts.{count_more}
use Rattle.schema_node_table.proofs.EdgesMade.{may_fill_end}

module _ {K : Type 0} (old mid : List (NodeEntry K)) (n : NodeEntry K) (i : ℕ) (is : i ≡ length old) (made : mid ≡ old ++ n ∷ []) (none : n.plan ≡ None) where
  at_end : slice_get mid i ≡ Some n
  at_end = rw (is, made) (get_end old n)

  pub adds : (annotations : Option Value) (plan : NodePlan K) (new : List (NodeEntry K)) → Fills mid i false annotations plan new → Adds old n annotations plan new
  adds annotations plan new (m, at, fills) =
      let same : m ≡ n = some_is m n (sym at ∙ at_end) in
      let count : filled_count mid ≡ filled_count old = ap filled_count made ∙ count_more old n none in
      fills
      ∙ (ap (λ x. slice_set mid i (filled x (filled_count mid) false annotations plan)) same
      ∙ (ap (λ k. slice_set mid i (filled n k false annotations plan)) count
      ∙ rw (is, made) (set_end old n (filled n (filled_count old) false annotations plan))))

  pub may_fill : (finished : ℕ) (plan : NodePlan K) → n.round ≡ Some 0 → IsOrdered mid finished → AreFilled old plan → MayBeFilled mid i false plan
  may_fill finished plan of o h = rw (is, made) (may_fill_end old finished n plan none of (subst (λ (ns : List (NodeEntry K)). IsOrdered ns finished) made o) h)
