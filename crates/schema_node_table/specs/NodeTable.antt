-- The table of nodes as data: for each number its form, which is `None` while it is reserved, and
-- its location. The table is filled in rounds: a number that waits is begun in a round later than
-- all numbers that were begun before it.
use Rattle.std.specs.Prelude.{◌≡◌, ℕ, suc, ◌<◌, ◌≤◌, ◌+◌, ◌-◌, ◌*◌, ◌==◌, max, ◌++◌, List, [], ◌∷◌, Bool, true, false, not, ◌&&◌, ◌⊎◌, Option, Some, None, map, option_map, option_and_then, unwrap_or, drop, length, slice_get, slice_set, All, if◌then◌else◌, is_some, IfOk, OnErr, OnOk, Result}
use Rattle.serde_json.specs.View.{view}
use Rattle.serde_json.specs.declared.value.Value.{Value}
use Rattle.theory_definitions.specs.Instance.{Text}
use Rattle.theory_definitions.specs.Plan.{encoded}
use Rattle.theory_definitions.specs.Pointer.{joined}
use Rattle.theory_definitions.specs.Guarded.{NodeEdge, NodeForm, node_keyword, node_reference, NodePart, NodePlan, node_always, node_never, node_these, Nodes, node_edges}
use Rattle.schema_traits.specs.declared.numbers.SchemaNode.{SchemaNode}

-- a node as data: `round` is the number that its compilation round began with, `None` while it
-- waits; `order` is how many nodes had their form before it, once it has its own; `settled` says
-- whether it is final: when it got its form, all its edges led to final nodes
pub record NodeEntry (K : Type 0) : Type 0 where
  pub location : Text
  pub base : Option Text
  pub start : ℕ
  pub round : Option ℕ
  pub order : ℕ
  pub settled : Bool
  pub annotations : Option Value
  pub plan : Option (NodePlan K)

-- the absolute form of a location: the URI, `#`, and the pointer from `start` on
abbrev pub absolute_in : {K : Type 0} → NodeEntry K → Text → Option Text
absolute_in n location = option_map (λ base. base ++ (35 ∷ encoded (drop n.start location))) n.base

-- the absolute location of the keyword with this name
abbrev pub keyword_absolute : {K : Type 0} → NodeEntry K → Text → Option Text
keyword_absolute n name = absolute_in n (joined n.location name)

-- the same nodes, with the abstract value of each keyword in its place
abbrev pub shaped_form : {K S : Type 0} → (K → S) → NodeForm K → NodeForm S
shaped_form shape (node_keyword m es) = node_keyword (shape m) es
shaped_form shape (node_reference e) = node_reference e

abbrev pub shaped_part : {K S : Type 0} → (K → S) → NodePart K → NodePart S
shaped_part shape x = record { name = x.name; priority = x.priority; is_leaf = x.is_leaf; form = shaped_form shape x.form }

abbrev pub shaped : {K S : Type 0} → (K → S) → NodePlan K → NodePlan S
shaped shape node_always = node_always
shaped shape node_never = node_never
shaped shape (node_these xs) = node_these (map (shaped_part shape) xs)

-- the plan at a number; a reserved number, or one outside the table, accepts everything
abbrev pub plan_in : {K : Type 0} → Option (NodeEntry K) → NodePlan K
plan_in None = node_always
plan_in (Some n) = unwrap_or n.plan node_always

-- the greatest round and the greatest order in a table
abbrev pub last_round : {K : Type 0} → List (NodeEntry K) → ℕ
last_round [] = 0
last_round (n ∷ ns) = max (unwrap_or n.round 0) (last_round ns)

abbrev pub last_order : {K : Type 0} → List (NodeEntry K) → ℕ
last_order [] = 0
last_order (n ∷ ns) = max n.order (last_order ns)

-- the rank of a node in its table: nodes without a form are lowest, then come the final ones by
-- their order, then the others; among these a later round ranks below an earlier one, and nodes of
-- one round rank by their order
abbrev pub rank_of : {K : Type 0} → List (NodeEntry K) → NodeEntry K → ℕ
rank_of ns n = if is_some n.plan then suc (if n.settled then n.order else ((suc (last_round ns) - unwrap_or n.round 0) * suc (last_order ns) + n.order)) else 0

-- the table in the form that the definitions use
abbrev pub numbered : {K S : Type 0} → (K → S) → List (NodeEntry K) → Nodes S
numbered shape ns = record {
  entries = λ i. shaped shape (plan_in (slice_get ns i));
  location = λ i. unwrap_or (option_map (λ n. n.location) (slice_get ns i)) [];
  absolute = λ i t. unwrap_or (option_map (λ n. absolute_in n t) (slice_get ns i)) None;
  annotations = λ i. option_and_then (λ n. option_map view n.annotations) (slice_get ns i);
  rank = λ i. unwrap_or (option_map (rank_of ns) (slice_get ns i)) 0;
}

-- there is a node at the number, and this is the answer about it
abbrev pub AnswersAt : {K A : Type 0} → List (NodeEntry K) → ℕ → (NodeEntry K → A) → A → Type 0
AnswersAt {K} ns i asked answer = (n : NodeEntry K) × (slice_get ns i ≡ Some n) × (answer ≡ asked n)

-- how many nodes have their form
abbrev pub filled_count : {K : Type 0} → List (NodeEntry K) → ℕ
filled_count [] = 0
filled_count (n ∷ ns) = (if is_some n.plan then 1 else 0) + filled_count ns

-- ---- the state of a number

-- the number is reserved
abbrev pub IsReserved : {K : Type 0} → List (NodeEntry K) → ℕ → Type 0
IsReserved {K} ns i = (n : NodeEntry K) × (slice_get ns i ≡ Some n) × (n.plan ≡ None)

-- the number is reserved and waits to be begun
abbrev pub Waits : {K : Type 0} → List (NodeEntry K) → ℕ → Type 0
Waits {K} ns i = (n : NodeEntry K) × (slice_get ns i ≡ Some n) × (n.plan ≡ None) × (n.round ≡ None)

-- the number is reserved and in progress in this round
abbrev pub IsOpen : {K : Type 0} → List (NodeEntry K) → ℕ → ℕ → Type 0
IsOpen {K} ns i round = (n : NodeEntry K) × (slice_get ns i ≡ Some n) × (n.plan ≡ None) × (n.round ≡ Some round)

-- the number was begun, in some round
abbrev pub IsBegun : {K : Type 0} → List (NodeEntry K) → ℕ → Type 0
IsBegun {K} ns i = (n : NodeEntry K) × (round : ℕ) × (slice_get ns i ≡ Some n) × (n.round ≡ Some round)

-- the number has its form
abbrev pub IsFilled : {K : Type 0} → List (NodeEntry K) → ℕ → Type 0
IsFilled {K} ns i = (n : NodeEntry K) × (plan : NodePlan K) × (slice_get ns i ≡ Some n) × (n.plan ≡ Some plan)

-- the number has its form, and its order is below this one
abbrev pub IsFilledBelow : {K : Type 0} → List (NodeEntry K) → ℕ → ℕ → Type 0
IsFilledBelow {K} ns order i = (n : NodeEntry K) × (plan : NodePlan K) × (slice_get ns i ≡ Some n) × (n.plan ≡ Some plan) × (n.order < order)

-- the node has its form and is final
abbrev pub is_settled_entry : {K : Type 0} → NodeEntry K → Bool
is_settled_entry n = is_some n.plan && n.settled

-- the node is of this round
abbrev pub is_of_round : ℕ → Option ℕ → Bool
is_of_round round None = false
is_of_round round (Some q) = q == round

-- an edge made in this round is guarded if its target is in progress, or has its form but is
-- neither final nor of this round
abbrev pub guards_at : {K : Type 0} → ℕ → NodeEntry K → Bool
guards_at round n = if is_some n.plan then (not n.settled && not (is_of_round round n.round)) else is_some n.round

-- this round is later than every round of the table
abbrev pub IsNewRound : {K : Type 0} → List (NodeEntry K) → ℕ → Type 0
IsNewRound {K} ns round = (i : ℕ) (n : NodeEntry K) (q : ℕ) → slice_get ns i ≡ Some n → n.round ≡ Some q → q < round

-- ---- where the edges of a node may lead when it gets its form

-- an unguarded edge from a node of this round, which will be final or not, may lead to this node. A
-- target without a form has to wait, and the edge's node must not be final. A target with a form
-- has to be final; or else the edge's node is not final, and the target's round is no earlier
pub record MayPass {K : Type 0} (round : ℕ) (settled : Bool) (n : NodeEntry K) : Type 0 where
  pub unfilled : n.plan ≡ None → (settled ≡ false) × (n.round ≡ None)
  pub formed : (plan : NodePlan K) → n.plan ≡ Some plan → (n.settled ≡ true) ⊎ ((settled ≡ false) × ((q : ℕ) × (n.round ≡ Some q) × (round ≤ q)))

-- an edge leads to a number of the table; if it is unguarded, to one that it may lead to
pub record MayLead {K : Type 0} (ns : List (NodeEntry K)) (round : ℕ) (settled : Bool) (e : NodeEdge) : Type 0 where
  pub entry : NodeEntry K
  pub at : slice_get ns e.node ≡ Some entry
  pub unguarded : e.guarded ≡ false → MayPass round settled entry

-- the number is in progress, and it may get this plan in its round
abbrev pub MayBeFilled : {K : Type 0} → List (NodeEntry K) → ℕ → Bool → NodePlan K → Type 0
MayBeFilled ns i settled plan = (round : ℕ) × IsOpen ns i round × All (MayLead ns round settled) (node_edges plan)

-- an edge leads to a number of the table; if it is unguarded, to one that has its form
pub record LeadsToFilled {K : Type 0} (ns : List (NodeEntry K)) (e : NodeEdge) : Type 0 where
  pub within : e.node < length ns
  pub unguarded : e.guarded ≡ false → IsFilled ns e.node

abbrev pub AreFilled : {K : Type 0} → List (NodeEntry K) → NodePlan K → Type 0
AreFilled ns plan = All (LeadsToFilled ns) (node_edges plan)

-- ---- what holds of every table that was filled like this

-- where an unguarded edge from a node with a form, of this round, leads. To a node without a form
-- only if the edge's node is not final; that target waits or is of a later round. To a final node
-- with a form if it got its form earlier; or else from a node that is not final, to a node of the
-- same round that got its form earlier, or to one of a later round
pub record Leads {K : Type 0} (round : ℕ) (n x : NodeEntry K) : Type 0 where
  pub unfilled : x.plan ≡ None → (n.settled ≡ false) × ((q : ℕ) → x.round ≡ Some q → round < q)
  pub formed : (plan : NodePlan K) → x.plan ≡ Some plan → ((x.settled ≡ true) × (x.order < n.order))
      ⊎ ((n.settled ≡ false) × ((q : ℕ) × (x.round ≡ Some q) × (((round ≡ q) × (x.order < n.order)) ⊎ (round < q))))

-- an edge of a node leads to a number of the table; if it is unguarded, as `Leads` says
pub record EdgeLeads {K : Type 0} (ns : List (NodeEntry K)) (round : ℕ) (n : NodeEntry K) (e : NodeEdge) : Type 0 where
  pub entry : NodeEntry K
  pub at : slice_get ns e.node ≡ Some entry
  pub unguarded : e.guarded ≡ false → Leads round n entry

-- a node with this plan has a round, its order is below the number of finished nodes, and its edges
-- lead as `EdgeLeads` says
pub record NodeLeads {K : Type 0} (ns : List (NodeEntry K)) (finished : ℕ) (n : NodeEntry K) (plan : NodePlan K) : Type 0 where
  pub round : ℕ
  pub begun : n.round ≡ Some round
  pub before : n.order < finished
  pub leads : All (EdgeLeads ns round n) (node_edges plan)

-- every node that has its form leads like this, and `finished` counts them
pub record IsOrdered {K : Type 0} (ns : List (NodeEntry K)) (finished : ℕ) : Type 0 where
  pub ordered : (i : ℕ) (n : NodeEntry K) (plan : NodePlan K) → slice_get ns i ≡ Some n → n.plan ≡ Some plan → NodeLeads ns finished n plan
  pub count : finished ≡ filled_count ns

-- ---- the steps that change the table

-- the node with its form
abbrev pub filled : {K : Type 0} → NodeEntry K → ℕ → Bool → Option Value → NodePlan K → NodeEntry K
filled n order settled annotations plan = record n { order = order; settled = settled; annotations = annotations; plan = Some plan }

-- the node begun in this round
abbrev pub begun_in : {K : Type 0} → NodeEntry K → ℕ → NodeEntry K
begun_in n round = record n { round = Some round }

-- a node that has its form and is not final is appended
abbrev pub Adds : {K : Type 0} → List (NodeEntry K) → NodeEntry K → Option Value → NodePlan K → List (NodeEntry K) → Type 0
Adds old n annotations plan new = new ≡ old ++ filled n (filled_count old) false annotations plan ∷ []

-- a node is appended and the result is its number; on `Err` nothing changes
pub record AddsNode {K E : Type 0} (old new : List (NodeEntry K)) (result : Result SchemaNode E) (n : NodeEntry K) : Type 0 where
  pub number : IfOk result (λ i. i.0 ≡ length old)
  pub added : OnOk result (new ≡ old ++ n ∷ [])
  pub unchanged : OnErr result (new ≡ old)

-- the same for a node that has its form and is not final
abbrev pub AddsFilled : {K E : Type 0} → List (NodeEntry K) → List (NodeEntry K) → Result SchemaNode E → NodeEntry K → Option Value → NodePlan K → Type 0
AddsFilled old new result n annotations plan = AddsNode old new result (filled n (filled_count old) false annotations plan)

-- the node at a number gets its form, and nothing else changes
abbrev pub Fills : {K : Type 0} → List (NodeEntry K) → ℕ → Bool → Option Value → NodePlan K → List (NodeEntry K) → Type 0
Fills {K} old i settled annotations plan new = (n : NodeEntry K) × (slice_get old i ≡ Some n) × (new ≡ slice_set old i (filled n (filled_count old) settled annotations plan))

-- the node at a number is begun in this round, and nothing else changes
abbrev pub Begins : {K : Type 0} → List (NodeEntry K) → ℕ → ℕ → List (NodeEntry K) → Type 0
Begins {K} old i round new = (n : NodeEntry K) × (slice_get old i ≡ Some n) × (new ≡ slice_set old i (begun_in n round))

-- the order of the number comes after that of every number that already had its form
abbrev pub ComesLast : {K : Type 0} → List (NodeEntry K) → ℕ → List (NodeEntry K) → Type 0
ComesLast {K} old i new = (j : ℕ) (m : NodeEntry K) (plan : NodePlan K) (n : NodeEntry K) → slice_get old j ≡ Some m → m.plan ≡ Some plan → slice_get new i ≡ Some n → m.order < n.order
