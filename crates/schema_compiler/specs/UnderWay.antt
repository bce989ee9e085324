-- The table while keys are found: the rounds of its numbers, which of them are open, and how the
-- edges are guarded.
use Rattle.std.specs.Prelude.{Bool, List, None, Option, Some, [], false, length, map, slice_get, true, ℕ, ◌<◌, ◌∷◌, ◌≡◌, ◌≤◌}
use Rattle.serde_json.specs.Data.{Data, Members}
use Rattle.theory_definitions.specs.Instance.{Place, Text}
use Rattle.theory_definitions.specs.Plan.{Edge, Key, Reference, making, option_list, subschema}
use Rattle.theory_meaning.specs.Reach.{asked_edges, maker_edges, members_edges, reference_edges}
use Rattle.theory_definitions.specs.Guarded.{NodeEdge, NodePart, NodePlan, node_edges, node_these}
use Rattle.schema_node_table.specs.NodeTable.{NodeEntry, filled_count, guards_at, is_settled_entry}
use Rattle.schema_keys.specs.Compiling.{Each, In, member_edges, object_edges, reference_asked}
use Rattle.schema_compiler.specs.Finding.{Course, Finds, GuardsByStanding, Visits, nests, standing_of}
use Rattle.schema_compiler.specs.Carried.{Table, Task}
use Rattle.schema_compiler.specs.Steps.{part_edges}
use Rattle.schema_compiler.specs.Reserving.{Reserves}

-- the progress of finding keys
abbrev pub course_of : {S C : Type 0} → Table S C → Course S
course_of t = record { keys = t.keys; standings = map standing_of t.nodes; round = t.round; depth = t.depth; loose = t.loose }

-- an edge that was made since the innermost open number was begun: it is guarded as the state of
-- its target requires, and it is recorded if the target is not final
pub record EdgeNow {S C : Type 0} (t : Table S C) (e : NodeEdge) : Type 0 where
  pub entry : NodeEntry C
  pub at : slice_get t.nodes e.node ≡ Some entry
  pub guard : e.guarded ≡ guards_at t.round entry
  pub loose : is_settled_entry entry ≡ false → t.loose ≡ true

-- every edge leads to a number of the table
abbrev pub EdgesWithin : {C : Type 0} → List (NodeEntry C) → Type 0
EdgesWithin {C} nodes = (i : ℕ) (n : NodeEntry C) (p : NodePlan C) (e : NodeEdge) → slice_get nodes i ≡ Some n → n.plan ≡ Some p → In (node_edges p) e → e.node < length nodes

-- the invariant of rounds and guards while keys are found
pub record IsUnderWay {S K C : Type 0} (g : Task S K C) (t : Table S C) : Type 0 where
  pub guards : GuardsByStanding t.nodes
  pub within : EdgesWithin t.nodes
  -- no round is later than this one
  pub rounds : (i r : ℕ) (n : NodeEntry C) → slice_get t.nodes i ≡ Some n → n.round ≡ Some r → r ≤ t.round
  -- an open number is of this round
  pub opens : (i r : ℕ) (n : NodeEntry C) → slice_get t.nodes i ≡ Some n → n.plan ≡ None → n.round ≡ Some r → r ≡ t.round
  -- a number with its form has a round, and a place in the order of forms
  pub formed : (i : ℕ) (n : NodeEntry C) (p : NodePlan C) → slice_get t.nodes i ≡ Some n → n.plan ≡ Some p → (r : ℕ) × (n.round ≡ Some r) × (n.order < filled_count t.nodes)
  -- no more targets of references are open one inside another than may nest
  pub nested : t.depth ≤ g.nested

module _ {S K C : Type 0} (g : Task S K C) (t t' : Table S C) where
  -- these edges were requested, one after another, and these were made
  pub record Goes (es : List (Edge S)) (made : List NodeEdge) : Type 0 where
    pub finds : Finds g.parts g.nested (course_of t) es (course_of t')
    pub now : Each (EdgeNow t') made
    pub under_way : IsUnderWay g t'
    pub stay : (i : ℕ) (n : NodeEntry C) → slice_get t.nodes i ≡ Some n → slice_get t'.nodes i ≡ Some n
    pub same_round : t'.round ≡ t.round
    pub same_depth : t'.depth ≡ t.depth
    pub looser : t.loose ≡ true → t'.loose ≡ true
    -- what was reserved meanwhile is given up
    pub reserves : Reserves t.reserved t'.reserved

  module _ (k : Key S) where
    -- the key has this number, as the target of an edge that nests or not
    pub record Reaches (nesting : Bool) (i : ℕ) : Type 0 where
      pub visits : (e : Edge S) → e.key ≡ k → nests e ≡ nesting → Visits g.parts g.nested (course_of t) e (course_of t') i
      pub under_way : IsUnderWay g t'
      pub stay : (j : ℕ) (n : NodeEntry C) → slice_get t.nodes j ≡ Some n → slice_get t'.nodes j ≡ Some n
      pub same_round : t'.round ≡ t.round
      pub same_depth : t'.depth ≡ t.depth
      pub same_loose : t'.loose ≡ t.loose
      pub reserves : Reserves t.reserved t'.reserved
      pub within : i < length t'.nodes

    abbrev pub GoesTo : Bool → NodeEdge → Type 0
    GoesTo nesting made = (e : Edge S) → e.key ≡ k → nests e ≡ nesting → Goes (e ∷ []) (made ∷ [])

    abbrev pub GoesNode : NodePlan C → Type 0
    GoesNode p = Goes (asked_edges g.parts k) (node_edges p)

    abbrev pub GoesObject : Members → NodePlan C → Type 0
    GoesObject ms p = Goes (object_edges g.parts k ms) (node_edges p)

    abbrev pub GoesMembers : Members → List (NodePart C) → Type 0
    GoesMembers ms xs = Goes (members_edges g.parts k ms ms) (node_edges (node_these xs))

    abbrev pub GoesMember : Members → Text → Data → Option (NodePart C) → Type 0
    GoesMember ms name value o = Goes (member_edges g.parts k ms name value) (part_edges o)

    abbrev pub GoesMaker : Members → Bool → Text → Option (NodePart C) → Type 0
    GoesMaker ms own name o = Goes (maker_edges g.parts k name (making g.parts k ms own name)) (part_edges o)

    abbrev pub GoesReference : Text → Reference → Data → Option (NodePart C) → Type 0
    GoesReference name kind value o = Goes (reference_edges g.parts k name kind value) (part_edges o)

    abbrev pub GoesRefer : Text → Reference → Text → Option NodeEdge → Type 0
    GoesRefer name kind text o = Goes (option_list (reference_asked g.parts k name kind text)) (option_list o)

    abbrev pub GoesChild : Place → NodeEdge → Type 0
    GoesChild path e = Goes (option_list (subschema g.parts k path)) (e ∷ [])
