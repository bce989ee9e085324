-- The results of the compiler's functions if nothing is refused: the step, and what it made.
use Rattle.std.specs.Prelude.{List, None, Option, Some, [], slice_get, ℕ, ◌≡◌, ◌∷◌}
use Rattle.serde_json.specs.Data.{Data, Members}
use Rattle.theory_definitions.specs.Instance.{Text}
use Rattle.theory_definitions.specs.Parts.{Parts}
use Rattle.theory_definitions.specs.Plan.{Edge, Key, Part, Plan, option_list}
use Rattle.theory_meaning.specs.Reach.{Reached}
use Rattle.theory_meaning.specs.Refusals.{Cause}
use Rattle.theory_definitions.specs.Guarded.{NodeEdge, NodePart, NodePlan, form_edges, node_always, node_these}
use Rattle.schema_node_table.specs.NodeTable.{NodeEntry}
use Rattle.schema_compiler.specs.Filling.{AreParts, IsGrown, IsMadePart, IsPlan, IsStep, IsTable, LeadsTo}

-- the edges of a part, if there is one
abbrev pub part_edges : {C : Type 0} → Option (NodePart C) → List NodeEdge
part_edges None = []
part_edges (Some x) = form_edges x.form

module _ {S K R C : Type 0} (w : Parts S K R) (shape : C → K) (limit : ℕ) (keys keys' : List (Key S)) (nodes nodes' : List (NodeEntry C)) where
  -- a key has this number
  pub record IsNumbered (k : Key S) (n : ℕ) : Type 0 where
    pub table : IsTable w shape limit keys' nodes'
    pub grown : IsGrown (Reached w k) keys keys' nodes nodes'
    pub number : slice_get keys' n ≡ Some k

  -- a key has a number, and this edge leads to it
  pub record IsEdgeTo (k : Key S) (path : Text) (e : NodeEdge) : Type 0 where
    pub table : IsTable w shape limit keys' nodes'
    pub grown : IsGrown (Reached w k) keys keys' nodes nodes'
    pub number : slice_get keys' e.node ≡ Some k
    pub at_path : e.path ≡ path

  -- the target of the requested edge has a number, and this edge leads to it; no edge if none was
  -- requested
  pub record IsAnswered (asked : Option (Edge S)) (cs : List Cause) (o : Option NodeEdge) : Type 0 where
    pub step : IsStep w shape limit (option_list asked) cs keys keys' nodes nodes'
    pub leads : LeadsTo w keys' o asked

  module _ (es : List (Edge S)) (cs : List Cause) (k : Key S) where
    -- a step that made a member's part, if there is one
    pub record MakesPart (o : Option (NodePart C)) (wanted : Option (Part K)) : Type 0 where
      pub step : IsStep w shape limit es cs keys keys' nodes nodes'
      pub made : IsMadePart w keys' shape k o wanted

    -- a step that made the parts of an object, and left the members that become annotations
    pub record MakesParts (xs : List (NodePart C)) (wanted : List (Part K)) (left wanted_left : Members) : Type 0 where
      pub step : IsStep w shape limit es cs keys keys' nodes nodes'
      pub entries : AreParts w keys' shape k xs wanted
      pub unknown : left ≡ wanted_left

    -- a step that made a key's plan and its annotations
    pub record MakesPlan (p : NodePlan C) (wanted : Plan K) (annotations wanted_annotations : Option Data) : Type 0 where
      pub step : IsStep w shape limit es cs keys keys' nodes nodes'
      pub plan : IsPlan w keys' shape k p wanted
      pub annotated : annotations ≡ wanted_annotations

-- the plan with only this part
abbrev pub alone : {C : Type 0} → Option (NodePart C) → NodePlan C
alone None = node_always
alone (Some x) = node_these (x ∷ [])
