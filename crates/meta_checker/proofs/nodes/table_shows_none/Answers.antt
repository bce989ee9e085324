use Rattle.std.proofs.Common.{◌∙◌, sym}
use Rattle.meta_checker.proofs.Tables.{one_says_no, one_more_says}
use Rattle.meta_checker.proofs.nodes.table_shows_none.Goals as goal

pub returns-then-not-node_shows_none : goal.returns-then-not-node_shows_none
returns-then-not-node_shows_none g c =
    let says = λ (k : g.row.K.Denot). g.K.Validate.is_whole (g.K.Validate.shape k) in
    record { shows = sym (one_says_no says c.args.nodes.now c.loop-number.number _ c.node.ensures.found (sym c.node_shows_none.ensures.shows ∙ c.if-not-node_shows_none.true)) }

pub loop-number-preserved : goal.loop-number-preserved
loop-number-preserved g c =
    let says = λ (k : g.row.K.Denot). g.K.Validate.is_whole (g.K.Validate.shape k) in
    one_more_says says c.args.nodes.now c.loop-number.number _ c.node.ensures.found (sym c.node_shows_none.ensures.shows ∙ c.if-not-node_shows_none.false) c.loop-number.invariant
