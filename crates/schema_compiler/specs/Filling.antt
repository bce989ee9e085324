-- The table of keys and nodes while it is filled: what the node of a number says about its key, and
-- how the table grows.
use Rattle.std.specs.Prelude.{List, None, Option, Some, [], length, option_map, slice_get, slice_set, ℕ, ◌++◌, ◌∷◌, ◌≡◌, ◌≤◌, ◌⊎◌}
use Rattle.theory_definitions.specs.Instance.{Text}
use Rattle.theory_definitions.specs.Parts.{Parts}
use Rattle.theory_definitions.specs.Plan.{Edge, Form, Key, Part, Plan, always, keyword, never, plan, reference, reference_edge, these, requested}
use Rattle.theory_definitions.specs.Making.{Request}
use Rattle.serde_json.specs.View.{view}
use Rattle.theory_definitions.specs.Units.{annotations_of}
use Rattle.theory_meaning.specs.Reach.{asked_edges}
use Rattle.theory_meaning.specs.Refusals.{Cause, causes}
use Rattle.theory_definitions.specs.Guarded.{NodeEdge, NodeForm, NodePart, NodePlan, node_always, node_keyword, node_never, node_reference, node_these, Children}
use Rattle.schema_node_table.specs.NodeTable.{NodeEntry}
use Rattle.schema_keys.specs.Compiling.{Each, ReachedFrom, Settled}
use Rattle.schema_keys.specs.ShownBases.{shown_base}
use Rattle.schema_keys.specs.Refusing.{AreDistinct}

module _ {S K R : Type 0} (w : Parts S K R) where
  -- ---- nodes whose edges lead to the numbers of these keys

  module _ (keys : List (Key S)) where
    abbrev pub LeadsTo : Option NodeEdge → Option (Edge S) → Type 0
    LeadsTo None None = Unit {0}
    LeadsTo (Some e) (Some edge) = (slice_get keys e.node ≡ Some edge.key) × (e.path ≡ edge.path)
    LeadsTo None (Some edge) = ⊥
    LeadsTo (Some e) None = ⊥

    -- the edges that the requests got
    abbrev pub AreChildren : Key S → Text → Children → List Request → Type 0
    AreChildren k name [] [] = Unit {0}
    AreChildren k name (e ∷ es) (r ∷ rs) = LeadsTo e (requested w k name r) × AreChildren k name es rs
    AreChildren k name _ _ = ⊥

    module _ {C : Type 0} (shape : C → K) where
      abbrev pub IsForm : Key S → Text → NodeForm C → Form K → Type 0
      IsForm k name (node_keyword m es) (keyword m' requests absorbed) = (shape m ≡ m') × AreChildren k name es requests
      IsForm k name (node_reference e) (reference kind text) = LeadsTo (Some e) (reference_edge w k name kind text)
      IsForm k name _ _ = ⊥

      pub record IsPart (k : Key S) (x : NodePart C) (y : Part K) : Type 0 where
        pub name : x.name ≡ y.name
        pub priority : x.priority ≡ y.priority
        pub is_leaf : x.is_leaf ≡ y.is_leaf
        pub form : IsForm k y.name x.form y.form

      abbrev pub AreParts : Key S → List (NodePart C) → List (Part K) → Type 0
      AreParts k [] [] = Unit {0}
      AreParts k (x ∷ xs) (y ∷ ys) = IsPart k x y × AreParts k xs ys
      AreParts k _ _ = ⊥

      abbrev pub IsMadePart : Key S → Option (NodePart C) → Option (Part K) → Type 0
      IsMadePart k None None = Unit {0}
      IsMadePart k (Some x) (Some y) = IsPart k x y
      IsMadePart k _ _ = ⊥

      abbrev pub IsPlan : Key S → NodePlan C → Plan K → Type 0
      IsPlan k node_always always = Unit {0}
      IsPlan k node_never never = Unit {0}
      IsPlan k (node_these xs) (these ys) = AreParts k xs ys
      IsPlan k _ _ = ⊥

  -- ---- the table

  module _ {C : Type 0} (shape : C → K) where
    -- a number that has its form is the plan of its key, everything that it requests has a number,
    -- and no cause is against it
    pub record IsPlanned (keys : List (Key S)) (k : Key S) (p : NodePlan C) : Type 0 where
      pub plans : IsPlan keys shape k p (plan w k)
      pub settled : Each (Settled w keys) (asked_edges w k)
      pub clean : causes w k ≡ []

    pub record IsNode (keys : List (Key S)) (k : Key S) (n : NodeEntry C) : Type 0 where
      pub location : n.location ≡ k.location
      pub base : n.base ≡ shown_base w k
      pub start : n.start ≡ k.start
      pub planned : (p : NodePlan C) → n.plan ≡ Some p → IsPlanned keys k p
      -- and its annotations are the key's
      pub annotated : (p : NodePlan C) → n.plan ≡ Some p → option_map view n.annotations ≡ annotations_of w k

    pub record IsTable (limit : ℕ) (keys : List (Key S)) (nodes : List (NodeEntry C)) : Type 0 where
      pub lengths : length nodes ≡ length keys
      pub within : length keys ≤ limit
      pub distinct : AreDistinct keys
      pub stands : (i : ℕ) (k : Key S) (n : NodeEntry C) → slice_get keys i ≡ Some k → slice_get nodes i ≡ Some n → IsNode keys k n

-- the node has its form, or its number waits for a round of its own
abbrev pub HasFormOrWaits : {C : Type 0} → NodeEntry C → Type 0
HasFormOrWaits {C} n = ((p : NodePlan C) × (n.plan ≡ Some p)) ⊎ ((n.plan ≡ None) × (n.round ≡ None))

-- numbers and nodes stay; each new one belongs to one of these keys, and has its form or waits
pub record IsGrown {S C : Type 0} (P : Key S → Type 0) (keys keys' : List (Key S)) (nodes nodes' : List (NodeEntry C)) : Type 0 where
  pub added : (ks : List (Key S)) × (keys' ≡ keys ++ ks) × Each P ks
  pub stay : (i : ℕ) (n : NodeEntry C) → slice_get nodes i ≡ Some n → slice_get nodes' i ≡ Some n
  pub filled : (i : ℕ) (n : NodeEntry C) → length keys ≤ i → slice_get nodes' i ≡ Some n → HasFormOrWaits n

-- a step that requested these edges, and that none of these causes refuses
pub record IsStep {S K R C : Type 0} (w : Parts S K R) (shape : C → K) (limit : ℕ) (es : List (Edge S)) (cs : List Cause) (keys keys' : List (Key S)) (nodes nodes' : List (NodeEntry C)) : Type 0 where
  pub table : IsTable w shape limit keys' nodes'
  pub grown : IsGrown (ReachedFrom w es) keys keys' nodes nodes'
  pub settled : Each (Settled w keys') es
  pub clean : cs ≡ []

-- a number has got a form, and nothing else has changed
abbrev pub Finishes : {C : Type 0} → List (NodeEntry C) → ℕ → List (NodeEntry C) → Type 0
Finishes {C} old i new = (n : NodeEntry C) × (p : NodePlan C) × (n.plan ≡ Some p) × (new ≡ slice_set old i n)
