-- An evaluation path leads from the root through subschemas and references to a target, and
-- continues to one of the target's keywords. (Core 2020-12, 12.3.1, keyword relative location)
use Rattle.std.specs.Prelude.{Contains, List, [], filter_map, flat_map, ◌++◌, ◌∷◌, ◌≡◌}
use Rattle.theory_definitions.specs.Instance.{Place, Text}
use Rattle.theory_definitions.specs.Pointer.{joined, pointer_to}
use Rattle.theory_definitions.specs.Parts.{Parts}
use Rattle.theory_definitions.specs.Plan.{Edge, Form, Key, Part, always, keyword, never, option_list, plan, reference, reference_edge, requested, these}

module _ {S K R : Type 0} (w : Parts S K R) where
  -- The edges of one keyword or reference of a plan.
  abbrev pub part_edges : Key S → Text → Form K → List (Edge S)
  part_edges k name (keyword m requests absorbed) = filter_map (requested w k name) requests
  part_edges k name (reference kind text) = option_list (reference_edge w k name kind text)

  -- The edges of a key.
  abbrev pub edges : Key S → List (Edge S)
  edges k = elim (plan w k) [ always ↦ [] | never ↦ [] | these xs ↦ flat_map (λ x. part_edges k x.name x.form) xs ]

  -- The name of a part of a plan, and the names that it absorbs.
  abbrev pub names : Part K → List Text
  names x = x.name ∷ elim x.form [ keyword m requests absorbed ↦ absorbed | reference kind text ↦ [] ]

  -- The rest of a path at a target: the path of one of the target's keywords, or a path below it;
  -- empty if the target is `false`.
  abbrev pub IsRest : Key S → Text → Type 0
  IsRest k rest = elim (plan w k) [ always ↦ ⊥ | never ↦ rest ≡ [] | these xs ↦ (name : Text) × (path : Place) × (Contains (flat_map names xs) name) × (rest ≡ joined [] name ++ pointer_to path) ]

  -- The evaluation path leads from the root to the target.
  pub data Walks (root : Key S) : Text → Key S → Type 0 where
    stands : Walks root [] root
    goes : {path : Text} {k : Key S} (edge : Edge S) → Walks root path k → Contains (edges k) edge → Walks root (path ++ edge.path) edge.key

  -- The path leads from the root to the target, and continues with the rest.
  pub record Leads (root : Key S) (path : Text) (k : Key S) (rest : Text) : Type 0 where
    pub front : Text
    pub walks : Walks root front k
    pub ends : IsRest k rest
    pub is : path ≡ front ++ rest
