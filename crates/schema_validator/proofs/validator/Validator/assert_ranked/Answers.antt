use Rattle.std.proofs.Common.{◌<◌, length, subst}
use Rattle.theory_meaning.specs.Numbered.{Ranked}
use Rattle.schema_node_table.specs.NodeTable.{numbered}
use Rattle.schema_compiled.specs.Program.{Program}
use Rattle.schema_validator.proofs.validator.Validator.assert_ranked.Goals as goal

pub returns : goal.returns
returns g c = record {
  inside = subst (λ (p : Program g.row.K.Denot g.row.M.Denot). p.root < length p.nodes) c.self.view_is c.assert_ranked.ensures.inside;
  ranked = subst (λ (p : Program g.row.K.Denot g.row.M.Denot). Ranked (numbered g.K.Validate.shape p.nodes) (length p.nodes)) c.self.view_is c.assert_ranked.ensures.ranked;
}
