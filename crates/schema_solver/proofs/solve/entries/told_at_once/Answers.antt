use Rattle.std.proofs.Common.{IfSome, ap, map, option_map}
use Rattle.std.specs.Prelude.{None, Option, Some}
use Rattle.schema_traits.specs.EdgeViews.{edge_of}
use Rattle.schema_node_table.specs.NodeViews.{form_of}
use Rattle.schema_solver.proofs.solve.entries.told_at_once.Goals as goal

weaker : {A : Type 0} → (o : Option A) → (P Q : A → Type 0) → ((a : A) → P a → Q a) → IfSome o P → IfSome o Q
weaker None P Q f is = tt
weaker (Some a) P Q f is = f a is

pub returns-in-Keyword : goal.returns-in-Keyword
returns-in-Keyword g c = record {
  tells = weaker c.is_valid_at_once.result _ _ (λ valid at_once. record {
    keyword = c.in-Keyword.keyword;
    children = map (option_map edge_of) c.in-Keyword.field-1.items;
    is = ap form_of c.in-Keyword.is;
    at_once = at_once;
  }) c.is_valid_at_once.ensures.at_once;
}
