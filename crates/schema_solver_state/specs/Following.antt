-- How many unguarded edges lead to each number of a table, and how many nodes it takes to evaluate
-- it with each edge followed. By these a solver picks the numbers that it inlines.
use Rattle.std.specs.Prelude.{Bool, EachIndex, List, Option, Some, count_by, false, filter_map, flat_map, if◌then◌else◌, length, map, min, nat_le, not, option_map}
use Rattle.std.specs.Prelude.{slice_get, slice_index, slice_index_or, sum_by, unwrap_or, ℕ, ◌&&◌, ◌++◌, ◌<◌, ◌==◌, ◌||◌, ◌≡◌}
use Rattle.theory_definitions.specs.Guarded.{NodeEdge, form_edges, node_edges, node_these}
use Rattle.schema_traits.specs.EdgeViews.{edge_of}
use Rattle.schema_traits.specs.declared.numbers.Edge.{Edge}
use Rattle.schema_node_table.specs.NodeTable.{NodeEntry, is_settled_entry, plan_in}
use Rattle.schema_node_table.specs.NodeViews.{entry_of, form_of, node_of}
use Rattle.schema_node_table.specs.declared.node.Entry.{Entry}
use Rattle.schema_node_table.specs.declared.node.Node.{Node}

-- ---- the edges of what the table is made of

-- of some children
abbrev pub child_edges : List (Option Edge) → List NodeEdge
child_edges cs = filter_map (λ o. o) (map (option_map edge_of) cs)

-- of an entry
abbrev pub entry_edges : {K : Type 0} → Entry K → List NodeEdge
entry_edges e = form_edges (form_of e.form)

-- of some entries
abbrev pub entries_edges : {K : Type 0} → List (Entry K) → List NodeEdge
entries_edges es = node_edges (node_these (map entry_of es))

-- of a node
abbrev pub edges_of : {K : Type 0} → Node K → List NodeEdge
edges_of n = node_edges (plan_in (Some (node_of n)))

-- ---- ways

-- how many of some edges lead to a number with nothing to guard them
abbrev pub ways_along : List NodeEdge → ℕ → ℕ
ways_along es i = count_by (λ e. not e.guarded && (e.node == i)) es

-- the edges of a table, node by node; a node without a form has none
abbrev pub table_edges : {K : Type 0} → List (NodeEntry K) → List NodeEdge
table_edges ns = flat_map (λ n. node_edges (plan_in (Some n))) ns

-- how many edges of a table lead to a number with nothing to guard them
abbrev pub ways_in : {K : Type 0} → List (NodeEntry K) → ℕ → ℕ
ways_in ns i = ways_along (table_edges ns) i

-- the node of this number in a table has its form and is final
abbrev pub is_settled_in : {K : Type 0} → List (NodeEntry K) → ℕ → Bool
is_settled_in ns i = unwrap_or (option_map is_settled_entry (slice_get ns i)) false

-- for each number, how many ways lead to it along some edges, counted as far as two
abbrev pub AreWays : List NodeEdge → List ℕ → Type 0
AreWays es ways = EachIndex ways (λ i. slice_index ways i ≡ min 2 (ways_along es i))

-- whatever edges were counted before, now those and these are counted
pub record Counts (es : List NodeEdge) (old new : List ℕ) : Type 0 where
  pub size : length new ≡ length old
  pub counted : (before : List NodeEdge) → AreWays before old → AreWays (before ++ es) new

-- ---- weights

-- the weight of a number, by these weights; if it has none, 255, which stands for too many nodes to
-- count
abbrev pub weight_in : List ℕ → ℕ → ℕ
weight_in ws i = slice_index_or ws i 255

-- the weight of an edge: that of the number that it leads to, or 255 if it is guarded
abbrev pub edge_weight : List ℕ → NodeEdge → ℕ
edge_weight ws e = if e.guarded then 255 else weight_in ws e.node

-- the weights of some edges, taken together
abbrev pub edges_weight : List ℕ → List NodeEdge → ℕ
edges_weight ws es = sum_by (edge_weight ws) es

-- the same, but 255 at the most
abbrev pub weight_together : List ℕ → List NodeEdge → ℕ
weight_together ws es = min 255 (edges_weight ws es)

-- the edges of a number; one that is not of the table, or has no form, has none
abbrev pub edges_from : {K : Type 0} → List (NodeEntry K) → ℕ → List NodeEdge
edges_from ns i = node_edges (plan_in (slice_get ns i))

-- no weight is less than the number of nodes to evaluate: a number of the table with a weight below
-- 255 weighs at least one more than its edges together, so none of these is guarded, and the
-- evaluation with each edge followed is a tree of at most that many nodes
abbrev pub Covers : {K : Type 0} → List (NodeEntry K) → List ℕ → Type 0
Covers ns ws = EachIndex ns (λ i. weight_in ws i < 255 → edges_weight ws (edges_from ns i) < weight_in ws i)

-- by these weights, a number is inlined: at most one unguarded edge leads to it, or it is final and
-- weighs less than 255
abbrev pub may_be_followed : {K : Type 0} → List (NodeEntry K) → List ℕ → ℕ → Bool
may_be_followed ns ws i = nat_le (ways_in ns i) 1 || (is_settled_in ns i && nat_le (weight_in ws i) 254)

-- which numbers of a table are inlined, by weights that cover it
pub record IsFollowing {K : Type 0} (ns : List (NodeEntry K)) (followed : List Bool) : Type 0 where
  pub weights : List ℕ
  pub covers : Covers ns weights
  pub each : EachIndex ns (λ i. slice_index_or followed i false ≡ may_be_followed ns weights i)
