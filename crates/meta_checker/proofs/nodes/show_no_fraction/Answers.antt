use Rattle.std.proofs.Common.{◌∙◌, sym}
use Rattle.meta_checker.proofs.Tables.{each_from_table, table_from_each}
use Rattle.meta_checker.proofs.nodes.show_no_fraction.Goals as goal

pub returns : goal.returns
returns g c =
    let says = g.K.Validate.is_whole in
    let shape = g.K.Validate.shape in
    let ns = c.args.nodes.now in
    record {
      exactly = (λ is. each_from_table shape says ns (sym c.table_shows_none.ensures.shows ∙ is), λ each. c.table_shows_none.ensures.shows ∙ table_from_each shape says ns each);
    }
