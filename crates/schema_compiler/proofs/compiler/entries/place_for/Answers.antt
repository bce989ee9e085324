use Rattle.std.proofs.Common.{◌≡◌, ◌∙◌, ap, length, ltb, map, subst, arith, rules, tests}
use Rattle.std.specs.Prelude.{insert, not, unwrap_or}
use Rattle.std.specs.List.{position_or_len}
use Rattle.std.proofs.lemmas.Iterator.{YieldsList-from_slice}
use Rattle.std.proofs.lemmas.Iterator.Search.{position_from_yields_List}
use Rattle.std.proofs.lemmas.List.Sums.{prefix_len-le-length}
use Rattle.schema_node_table.specs.declared.node.Entry.{Entry}
use Rattle.schema_node_table.specs.NodeViews.{entry_of}
use Rattle.schema_compiler.specs.Ordering.{placed_after}
use Rattle.schema_compiler.proofs.Placing.{first_or_end, placed_first}
use Rattle.schema_compiler.proofs.compiler.entries.place_for.Goals as goal

pub returns : goal.returns
returns g c =
    let es = c.args.entries.now in
    let found = position_from_yields_List (λ (e : Entry _). ltb c.args.priority e.priority) _ _ c.position.result c.position.ensures.ran (YieldsList-from_slice es cc) (λ x b q k. search (rules, tests)) in
    let first = c.unwrap_or.ensures ∙ ap (λ o. unwrap_or o (length es)) found ∙ first_or_end (λ (e : Entry _). ltb c.args.priority e.priority) es in
    record {
      within = (let w = prefix_len-le-length (λ (e : Entry _). not (ltb c.args.priority e.priority)) es in omega (arith, first));
      place = λ x p. ap (λ n. insert (map entry_of es) n x) first ∙ subst (λ q. insert (map entry_of es) (position_or_len (λ e. ltb q e.priority) es) x ≡ placed_after x (map entry_of es)) p (placed_first es x);
    }
