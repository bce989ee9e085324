use Rattle.std.proofs.Common.{◌≡◌, ◌∙◌, ◌++◌, ◌∷◌, [], List, ap, arith, length, map, refl, sym, take, drop}
use Rattle.std.proofs.lemmas.Grind.{common_steps}
use Rattle.std.proofs.lemmas.List.{map-append, take-append-drop}
use Rattle.schema_reports.specs.UnitViews.{unit_of}
use Rattle.schema_reports.specs.declared.evaluation.EvaluationNode.{EvaluationNode}
use Rattle.schema_run_steps.proofs.evaluation_order.UnitsInOrder.into_children.Goals as goal

none_in : (ns : List EvaluationNode) → length ns ≡ 0 → [] ≡ ns
none_in [] is = refl
none_in (n ∷ ns) is = grind arith

pub returns-then-is_empty-2 : goal.returns-then-is_empty-2
returns-then-is_empty-2 c =
    let entries = c.args.self.entries.items in
    let before = c.args.self.before in
    let types = none_in c.args.self.types.items (grind (arith, common_steps)) in
    let counts = none_in c.args.self.counts.items (grind (arith, common_steps)) in
    record {
      children = λ texts. ap (map (unit_of texts)) (c.from_nodes.ensures.nodes ∙ sym (take-append-drop before entries))
          ∙ map-append (unit_of texts) (take before entries) (drop before entries)
          ∙ (λ i. map (unit_of texts) (types i) ++ (map (unit_of texts) (take before entries) ++ (map (unit_of texts) (counts i) ++ map (unit_of texts) (drop before entries))));
    }
