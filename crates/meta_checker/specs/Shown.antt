-- Whether no keyword of a table of nodes shows a fraction of its schema. References show none.
-- (Core 2020-12, 6.3: the standard does not distinguish the ways to write a number, so nothing is
-- promised of texts that show fractions)
use Rattle.std.specs.List.{list_all}
use Rattle.std.specs.Prelude.{Bool, List, Some}
use Rattle.theory_definitions.specs.Guarded.{NodeForm}
use Rattle.theory_meaning.specs.Fractions.{form_words, node_words}
use Rattle.schema_node_table.specs.NodeTable.{NodeEntry, plan_in}

module _ {K : Type 0} (is_whole : K → Bool) where
  abbrev pub form_is_whole : NodeForm K → Bool
  form_is_whole form = list_all is_whole (form_words form)

  abbrev pub node_is_whole : NodeEntry K → Bool
  node_is_whole n = list_all is_whole (node_words (plan_in (Some n)))

  abbrev pub table_is_whole : List (NodeEntry K) → Bool
  table_is_whole ns = list_all node_is_whole ns
