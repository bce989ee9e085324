-- The marks of the code, as the definitions have them.
use Rattle.std.specs.List.{list_any}
use Rattle.std.specs.Prelude.{Bool, List, Option, [], ◌∷◌, ◌++◌, map, option_map, ℕ}
use Rattle.theory_definitions.specs.Guarded.{Children, node_child, same_edge, same_node}
use Rattle.theory_definitions.specs.Keywords as spec
use Rattle.theory_definitions.specs.Runs.{with_mark}
use Rattle.schema_traits.specs.EdgeViews.{edge_of}
use Rattle.schema_traits.specs.KeywordViews.{marked_of}
use Rattle.schema_traits.specs.declared.keyword.Marked.{Marked}
use Rattle.schema_traits.specs.declared.numbers.Edge.{Edge}

-- the marks of a run, the last one first
abbrev pub last_first : List Marked → List spec.Marked
last_first [] = []
last_first (m ∷ ms) = last_first ms ++ marked_of m ∷ []

-- the edges that the children of a keyword got
abbrev pub edges_of : List (Option Edge) → Children
edges_of children = map (option_map edge_of) children

-- judged by these edges, two marks count as the same
abbrev pub same_mark : List (Option Edge) → Marked → Marked → Bool
same_mark children m other = same_edge (edges_of children) (marked_of m) (marked_of other)

-- by these edges, two children lead to the same node and are guarded alike
abbrev pub lead_to_one : List (Option Edge) → ℕ → ℕ → Bool
lead_to_one children child other = same_node (node_child (edges_of children) child) (node_child (edges_of children) other)

-- judged by these edges, one of the marks is the same as this one
abbrev pub is_marked : List (Option Edge) → Marked → List spec.Marked → Bool
is_marked children m marks = list_any (same_edge (edges_of children) (marked_of m)) marks

-- the marks, with this one added unless one of them is the same
abbrev pub marks_with : List (Option Edge) → Marked → List spec.Marked → List spec.Marked
marks_with children m marks = with_mark (same_edge (edges_of children)) (marked_of m) marks
