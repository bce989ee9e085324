-- Numbers from which no guarded edge is reached: the answer of such a number at a place is the same
-- whatever is in progress there.
use Rattle.std.specs.List.{list_all}
use Rattle.std.specs.Prelude.{Bool, Contains, List, None, Option, Some, false, length, nat_le, not, slice_get, slice_index_or, true, ℕ, ◌&&◌, ◌≡◌}
use Rattle.theory_definitions.specs.Guarded.{NodeEdge, NodeForm, NodePlan, node_always, node_edges, node_keyword, node_never, node_reference, node_these}
use Rattle.schema_node_table.specs.NodeTable.{IsOrdered, NodeEntry, plan_in}
use Rattle.schema_node_table.specs.NodeViews.{node_of}
use Rattle.schema_node_table.specs.declared.node.Node.{Node}

-- a set of numbers is closed under the edges: no edge of a number in it is guarded, and each leads
-- to a number in it
abbrev pub AreClosed : (ℕ → List NodeEdge) → (ℕ → Bool) → Type 0
AreClosed edges closed = (i : ℕ) → closed i ≡ true → (e : NodeEdge) → Contains (edges i) e → (e.guarded ≡ false) × (closed e.node ≡ true)

-- no guarded edge is reached from a number, however many edges are followed: the number is in a
-- closed set
abbrev pub ReachesNoGuard : (ℕ → List NodeEdge) → ℕ → Type 0
ReachesNoGuard edges i = (closed : ℕ → Bool) × AreClosed edges closed × (closed i ≡ true)

-- the edges of each number of a table; a number without a form, or outside the table, has none
abbrev pub edges_in : {K : Type 0} → List (NodeEntry K) → ℕ → List NodeEdge
edges_in ns i = node_edges (plan_in (slice_get ns i))

-- ---- the same, computed from weights: a number with a weight is closed

abbrev pub has_weight : List ℕ → ℕ → Bool
has_weight ws i = nat_le 1 (slice_index_or ws i 0)

module _ (closed : ℕ → Bool) where
  -- an edge is unguarded and leads to a closed number
  abbrev pub edge_closes : NodeEdge → Bool
  edge_closes e = not e.guarded && closed e.node

  -- the same for each edge of a child, of a form and of a plan
  abbrev pub child_closes : Option NodeEdge → Bool
  child_closes None = true
  child_closes (Some e) = edge_closes e

  abbrev pub form_closes : {K : Type 0} → NodeForm K → Bool
  form_closes (node_keyword m es) = list_all child_closes es
  form_closes (node_reference e) = edge_closes e

  abbrev pub plan_closes : {K : Type 0} → NodePlan K → Bool
  plan_closes node_always = true
  plan_closes node_never = true
  plan_closes (node_these xs) = list_all (λ x. form_closes x.form) xs

-- the same for a node, with the numbers that have a weight
abbrev pub node_closes : {K : Type 0} → List ℕ → Node K → Bool
node_closes weights n = plan_closes (has_weight weights) (plan_in (Some (node_of n)))

-- there is a weight for each number of the table, and the numbers whose weight is not 0 are closed
pub record AreWeighed {K : Type 0} (ns : List (NodeEntry K)) (weights : List ℕ) : Type 0 where
  pub each : length weights ≡ length ns
  pub closed : AreClosed (edges_in ns) (has_weight weights)

-- ---- the invariant of a table: its nodes are ordered, and the numbers with a weight are closed

pub record HoldsTable {K : Type 0} (ns : List (NodeEntry K)) (finished : ℕ) (weights : List ℕ) : Type 0 where
  pub ordered : IsOrdered ns finished
  pub closed : AreClosed (edges_in ns) (has_weight weights)
