use Rattle.std.proofs.Common.{◌≡◌, ◌++◌, ◌∙◌, ◌∷◌, [], Some, ap, append-nil, arith, drop, false, map, sym, true}
use Rattle.std.proofs.lemmas.List.{drop_all}
use Rattle.serde_json.specs.View.{view}
use Rattle.theory_definitions.specs.Reports.{children_of, report_of, units_of}
use Rattle.schema_reports.specs.UnitLevels.{unit_level}
use Rattle.schema_reports.specs.UnitViews.{unit_of}
use Rattle.standard_outputs.specs.CodeViews.{outer_of}
use Rattle.standard_outputs.specs.Hierarchical.{node_object, nodes_for_each}
use Rattle.standard_outputs.specs.KeywordUnits.{is_keyword_in}
use Rattle.standard_outputs.proofs.Nodes.{map_one_more, node_for}
use Rattle.standard_outputs.proofs.hierarchical_units.+push_nodes.Goals as goal

pub returns : goal.returns
returns t c =
    let u = unit_of true c.args.node.now in
    let level = unit_level true c.args.node.now in
    let outer = outer_of c.args.outer in
    let l = c.loop-child-2 in
    let xs = c.deref-child-items-2.result.now in
    let old = map view c.args.nodes.now.items in
    let lone : is_keyword_in outer (report_of u) ≡ false =
    ap (λ v. is_keyword_in outer (report_of v)) level ∙ sym c.is_keyword_in.ensures.keyword ∙ c.if-is_keyword_in.false in
    let none : drop l.child-index xs ≡ [] = drop_all l.child-index xs (omega arith) in
    let inside : map view l.inside.items ≡ nodes_for_each (Some (report_of u)) (children_of u) =
    sym (append-nil (map view l.inside.items))
    ∙ ap (λ ys. map view l.inside.items ++ nodes_for_each (Some (report_of u)) (units_of (map (unit_of true) ys))) (sym none)
    ∙ l.invariant
    ∙ ap (λ ys. nodes_for_each (Some (report_of u)) (units_of (map (unit_of true) ys))) c.deref-child-items-2.ensures.value
    ∙ ap (λ v. nodes_for_each (Some (report_of u)) (children_of v)) (sym level) in
    record {
      pushed = ap (map view) c.in_ok-push.ensures.items
          ∙ map_one_more view c.args.nodes.now.items c.in_ok-node_object.field-0
          ∙ ap (λ d. old ++ d ∷ []) (c.in_ok-node_object.ensures.object ∙ ap (node_object (report_of u) (children_of u)) inside)
          ∙ ap (λ ds. old ++ ds) (sym (node_for outer u lone));
    }
