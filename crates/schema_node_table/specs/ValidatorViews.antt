-- The validators of a node, one at a time.
use Rattle.std.specs.Prelude.{ℕ, List, [], ◌∷◌, map, Option, Some, None}
use Rattle.theory_definitions.specs.Guarded.{NodeForm, NodePart, NodePlan, node_always, node_keyword, node_never, node_reference, node_these}
use Rattle.schema_node_table.specs.NodeViews.{entry_of}
use Rattle.schema_node_table.specs.declared.node.validators.NodeValidator.{NodeValidator}
use Rattle.schema_node_table.specs.declared.node.validators.NodeValidator.TheVariants as validator
use Rattle.schema_node_table.specs.declared.node.validators.NodeValidatorsIter.{NodeValidatorsIter}
use Rattle.schema_node_table.specs.declared.node.validators.NodeValidatorsIter.TheVariants as left

-- a validator: one that refuses everything, a keyword, or the node that a reference leads to
pub data Asked (K : Type 0) : Type 0 where
  refusal : Asked K
  a_keyword : K → Asked K
  a_node : ℕ → Asked K

abbrev pub validator_of : {K : Type 0} → NodeValidator K → Asked K
validator_of validator.False = refusal
validator_of (validator.Keyword k) = a_keyword k.now
validator_of (validator.Reference n) = a_node n.0

abbrev pub form_asked : {K : Type 0} → NodeForm K → Asked K
form_asked (node_keyword m es) = a_keyword m
form_asked (node_reference e) = a_node e.node

abbrev pub parts_asked : {K : Type 0} → List (NodePart K) → List (Asked K)
parts_asked xs = map (λ x. form_asked x.form) xs

-- a `true` plan has none, a `false` plan has a refusal, and any other has each entry in order
abbrev pub plan_asked : {K : Type 0} → NodePlan K → List (Asked K)
plan_asked node_always = []
plan_asked node_never = refusal ∷ []
plan_asked (node_these xs) = parts_asked xs

-- the only entry of a plan with exactly one
abbrev pub single_asked : {K : Type 0} → NodePlan K → Option (Asked K)
single_asked (node_these (x ∷ [])) = Some (form_asked x.form)
single_asked _ = None

-- the validators that an iterator has left
abbrev pub left_asked : {K : Type 0} → NodeValidatorsIter K → List (Asked K)
left_asked left.False = refusal ∷ []
left_asked (left.Entries es) = parts_asked (map entry_of es.now)
