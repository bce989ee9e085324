use Rattle.std.proofs.Common.{◌∙◌, sym}
use Rattle.schema_solver.proofs.Says.{each_from_table, monotone_each, table_from_each}
use Rattle.schema_solver.proofs.monotone.is_monotone.Goals as goal

pub returns : goal.returns
returns g c =
    let says = g.K.Validate.says_monotone in
    let shape = g.K.Validate.shape in
    let ns = c.args.nodes.now in
    record {
      exactly = (λ is. each_from_table shape says ns (sym c.table_says.ensures.says ∙ is), λ each. c.table_says.ensures.says ∙ table_from_each shape says ns each);
      monotone = λ is texts. monotone_each shape says ns (g.K.Validate.words texts) (g.met.K.Validate.grows texts) (each_from_table shape says ns (sym c.table_says.ensures.says ∙ is));
    }
