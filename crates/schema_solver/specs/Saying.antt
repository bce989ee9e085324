-- Each keyword of each node says that it is monotone. References count as monotone.
use Rattle.std.specs.List.{list_all}
use Rattle.std.specs.Prelude.{Bool, List, Some}
use Rattle.theory_definitions.specs.Guarded.{NodeForm}
use Rattle.theory_meaning.specs.Fractions.{form_words, node_words}
use Rattle.schema_node_table.specs.NodeTable.{NodeEntry, plan_in}
-- each keyword of these numbers says that it is monotone
pub use Rattle.schema_solver.specs.Solving.{EachSays}

module _ {K : Type 0} (says : K → Bool) where
  -- ---- the same, computed over a table

  abbrev pub form_says : NodeForm K → Bool
  form_says form = list_all says (form_words form)

  abbrev pub node_says : NodeEntry K → Bool
  node_says n = list_all says (node_words (plan_in (Some n)))

  abbrev pub table_says : List (NodeEntry K) → Bool
  table_says ns = list_all node_says ns
