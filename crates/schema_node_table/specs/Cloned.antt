-- What a node has in common with its clone: everything but the representation of its keywords and
-- annotations.
use Rattle.std.specs.Prelude.{Bool, IfOk, List, Option, Result, map, option_map, ℕ, ◌≡◌}
use Rattle.std.specs.declared.alloc.Global.{Global}
use Rattle.std.specs.declared.vec.Vec.{Vec}
use Rattle.serde_json.specs.Data.{Data}
use Rattle.serde_json.specs.View.{view}
use Rattle.theory_definitions.specs.Instance.{Text}
use Rattle.theory_definitions.specs.Guarded.{NodePlan}
use Rattle.schema_node_table.specs.NodeTable.{NodeEntry, shaped}

-- if the result is `Ok`, then it is a copy: this function has the same value for both
abbrev pub Copies : {A B E : Type 0} → (A → B) → Result A E → A → Type 0
Copies seen result source = IfOk result (λ copy. seen copy ≡ seen source)

-- the same for lists
abbrev pub CopiesList : {A B E : Type 0} → (List A → B) → Result (Vec A Global) E → List A → Type 0
CopiesList seen result source = IfOk result (λ copies. seen copies.items ≡ seen source)

-- a node with abstract values for its keywords, and its annotations as data
pub record ShapedNode (S : Type 0) : Type 0 where
  pub location : Text
  pub base : Option Text
  pub start : ℕ
  pub round : Option ℕ
  pub order : ℕ
  pub settled : Bool
  pub annotations : Option Data
  pub plan : Option (NodePlan S)

abbrev pub shaped_node : {K S : Type 0} → (K → S) → NodeEntry K → ShapedNode S
shaped_node shape n = record {
  location = n.location;
  base = n.base;
  start = n.start;
  round = n.round;
  order = n.order;
  settled = n.settled;
  annotations = option_map view n.annotations;
  plan = option_map (shaped shape) n.plan;
}

abbrev pub shaped_nodes : {K S : Type 0} → (K → S) → List (NodeEntry K) → List (ShapedNode S)
shaped_nodes shape ns = map (shaped_node shape) ns
