use Rattle.std.proofs.Common.{◌<◌, length, subst}
use Rattle.theory_meaning.specs.Numbered.{Ranked}
use Rattle.schema_node_table.specs.NodeTable.{numbered}
use Rattle.schema_node_table.proofs.RankedTable.{ranked_table}
use Rattle.schema_compiled.specs.Program.{Program}
use Rattle.schema_compiled.proofs.compiled_schema.CompiledSchema.assert_ranked.Goals as goal

pub returns : goal.returns
returns g c = record {
  inside = subst (λ (p : Program g.row.K.Denot g.row.M.Denot). p.root < length p.nodes) c.self.view_is c.self.invariant.0;
  ranked = subst (λ (p : Program g.row.K.Denot g.row.M.Denot). Ranked (numbered g.K.Validate.shape p.nodes) (length p.nodes)) c.self.view_is
      (ranked_table g.K.Validate.shape _ c.assert_ordered.ensures.ordered.0 c.assert_ordered.ensures.ordered.1);
}
