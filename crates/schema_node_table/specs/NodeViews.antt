-- The code's nodes as data.
use Rattle.std.specs.Prelude.{Bool, ℕ, Option, Some, None, String, false, string_bytes, map, option_map, true}
use Rattle.std.specs.declared.alloc.Global.{Global}
use Rattle.std.specs.declared.vec.Vec.{Vec}
use Rattle.theory_definitions.specs.Instance.{Text}
use Rattle.theory_definitions.specs.Guarded as spec
use Rattle.schema_node_table.specs.NodeTable.{NodeEntry}
use Rattle.schema_traits.specs.EdgeViews.{edge_of}
use Rattle.schema_node_table.specs.declared.node.EntryForm.{EntryForm}
use Rattle.schema_node_table.specs.declared.node.EntryForm.TheVariants.{Keyword, Reference}
use Rattle.schema_node_table.specs.declared.node.Entry.{Entry}
use Rattle.schema_node_table.specs.declared.node.NodeForm.{NodeForm}
use Rattle.schema_node_table.specs.declared.node.NodeForm.TheVariants.{Always, Never, Keywords}
use Rattle.schema_node_table.specs.declared.node.Node.{Node}

abbrev pub form_of : {K : Type 0} → EntryForm K → spec.NodeForm K
form_of (Keyword k es) = spec.node_keyword k (map (option_map edge_of) es.items)
form_of (Reference e) = spec.node_reference (edge_of e)

abbrev pub entry_of : {K : Type 0} → Entry K → spec.NodePart K
entry_of x = record { name = x.name; priority = x.priority; is_leaf = x.is_leaf; form = form_of x.form }

abbrev pub plan_of : {K : Type 0} → NodeForm K → spec.NodePlan K
plan_of Always = spec.node_always
plan_of Never = spec.node_never
plan_of (Keywords xs) = spec.node_these (map entry_of xs.items)

abbrev pub node_of : {K : Type 0} → Node K → NodeEntry K
node_of n = record { location = n.location; base = option_map string_bytes n.base; start = n.start; round = n.round; order = n.order; settled = n.settled; annotations = n.annotations; plan = option_map plan_of n.form }

-- the plan of these entries
abbrev pub plan_with : {K : Type 0} → Vec (Entry K) Global → spec.NodePlan K
plan_with entries = spec.node_these (map entry_of entries.items)

-- the plan of a boolean
abbrev pub boolean_plan : {K : Type 0} → Bool → spec.NodePlan K
boolean_plan true = spec.node_always
boolean_plan false = spec.node_never

-- a node without a form, with a round if it is in progress
abbrev pub unfilled_node : {K : Type 0} → Text → Option Text → ℕ → Option ℕ → NodeEntry K
unfilled_node location base start round = record { location = location; base = base; start = start; round = round; order = 0; settled = false; annotations = None; plan = None }

-- a node whose number is reserved and in progress in this round
abbrev pub reserved_node : {K : Type 0} → Text → Option Text → ℕ → ℕ → NodeEntry K
reserved_node location base start round = unfilled_node location base start (Some round)

-- a node without a form, from the values of the code
abbrev pub new_node : {K : Type 0} → Text → Option (String Global) → ℕ → Option ℕ → NodeEntry K
new_node location base start round = unfilled_node location (option_map string_bytes base) start round

-- a node whose number is reserved and waits
abbrev pub waiting_node : {K : Type 0} → Text → Option Text → ℕ → NodeEntry K
waiting_node location base start = unfilled_node location base start None
