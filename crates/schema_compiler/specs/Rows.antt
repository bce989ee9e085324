-- A worked example: the keys of a small cycle are found in one order, with many nested targets or
-- with none, and in such a table only the edge back to the root is guarded. The schema is
-- {"$ref": "#/$defs/a", "$defs": {"a": {"not": {"$ref": "#"}}}}
use Rattle.std.specs.Prelude.{List, Some, [], codes, false, map, slice_get, suc, true, ℕ, ◌<◌, ◌≡◌, ◌∷◌}
use Rattle.serde_json.specs.Data.{Data}
use Rattle.theory_definitions.specs.Instance.{Text}
use Rattle.theory_definitions.specs.Parts.{Parts}
use Rattle.theory_definitions.specs.Plan.{Edge, Key}
use Rattle.theory_meaning.specs.Reach.{asked_edges}
use Rattle.theory_definitions.specs.Guarded.{NodeEdge, NodePlan, node_edges}
use Rattle.theory_meaning.specs.RowsWorked.{Running, Word, worked_parts, one_member, ref_to, root_of, text, two_members}
use Rattle.schema_node_table.specs.NodeTable.{NodeEntry}
use Rattle.schema_keys.specs.Compiling.{In}
use Rattle.schema_compiler.specs.Finding.{FindsAll, GuardsByStanding, Standing, is_formed, standing_of}

abbrev pub circle_schema : Data
circle_schema = two_members (codes "$defs") (one_member (codes "a") (one_member (codes "not") (ref_to (codes "#")))) (codes "$ref") (text (codes "#/$defs/a"))

abbrev pub circle : Parts Text Word Running
circle = worked_parts [] circle_schema

-- the first edge that a key requests; if it requests none, an edge to itself
abbrev pub first_edge : Key Text → Edge Text
first_edge k = elim (asked_edges circle k) [ [] ↦ record { key = k; path = []; is_reference = false; is_recursive = false } | e ∷ es ↦ e ]

-- the root's key, that of `/$defs/a`, and that of the value of its `not`
abbrev pub root_key : Key Text
root_key = root_of [] circle_schema

abbrev pub inner_key : Key Text
inner_key = (first_edge root_key).key

abbrev pub last_key : Key Text
last_key = (first_edge inner_key).key

abbrev pub circle_keys : List (Key Text)
circle_keys = root_key ∷ inner_key ∷ last_key ∷ []

-- the last key requests the root's
abbrev pub CircleCloses : Type 0
CircleCloses = (first_edge last_key).key ≡ root_key

-- if targets nest, all three are compiled in the first round, and the last one that is found is
-- finished first
abbrev pub nested_standings : List Standing
nested_standings = is_formed 0 2 false ∷ is_formed 0 1 false ∷ is_formed 0 0 false ∷ []

abbrev pub FoundNested : Type 0
FoundNested = FindsAll circle 8 root_key circle_keys nested_standings

-- if none may nest, the second waits: the root gets its form first, and the others get theirs in a
-- round of their own
abbrev pub waiting_standings : List Standing
waiting_standings = is_formed 0 0 false ∷ is_formed 1 2 false ∷ is_formed 1 1 false ∷ []

abbrev pub FoundWaiting : Type 0
FoundWaiting = FindsAll circle 0 root_key circle_keys waiting_standings

-- among the edges from each number to the next and from the third back to the first, only the last
-- is guarded
abbrev pub OnlyTheWayBack : List Standing → Type 0
OnlyTheWayBack standings = (nodes : List (NodeEntry Word)) → map standing_of nodes ≡ standings → GuardsByStanding nodes
    → (i : ℕ) (n : NodeEntry Word) (p : NodePlan Word) (e : NodeEdge) → slice_get nodes i ≡ Some n → n.plan ≡ Some p → In (node_edges p) e
    → (i < 2 → e.node ≡ suc i → e.guarded ≡ false) × (i ≡ 2 → e.node ≡ 0 → e.guarded ≡ true)
