use Rattle.std.proofs.Common.{◌∙◌, length, subst, sym}
use Rattle.theory_meaning.specs.Fractions.{AreWhole}
use Rattle.theory_meaning.specs.Numbered.{Ranked}
use Rattle.schema_node_table.specs.NodeTable.{NodeEntry, numbered}
use Rattle.schema_node_table.proofs.RankedTable.{ranked_table}
use Rattle.std.specs.Prelude.{List}
use Rattle.meta_checker.proofs.FirstChecked.{unlimited_of}
use Rattle.meta_checker.proofs.checker.Checker.of.Goals as goal

pub invariant_of-result : goal.invariant_of-result
invariant_of-result g c = record {
  finishes = c.requires.finishes;
  whole = subst (λ (ns : List (NodeEntry g.row.K.Denot)). AreWhole g.K.Validate.is_whole (numbered g.K.Validate.shape ns) (length ns))
      c.nodes-nodes.ensures.nodes (c.show_no_fraction.ensures.exactly.0 c.if-not-show_no_fraction.false);
  ranked = subst (λ (ns : List (NodeEntry g.row.K.Denot)). Ranked (numbered g.K.Validate.shape ns) (length ns))
      c.nodes-nodes.ensures.nodes (ranked_table g.K.Validate.shape _ c.assert_ordered.ensures.ordered.0 c.assert_ordered.ensures.ordered.1);
  inside = c.requires.inside;
  some = c.requires.some;
  unlimited = unlimited_of c.work_limit.result c.work_limit.ensures.work (sym c.is_some.ensures ∙ c.if-is_some.false);
  shallow = unlimited_of c.depth_limit.result c.depth_limit.ensures.depth (sym c.is_some-2.ensures ∙ c.if-is_some-2.false);
}
