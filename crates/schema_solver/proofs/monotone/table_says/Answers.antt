use Rattle.std.proofs.Common.{◌∙◌, sym}
use Rattle.schema_solver.proofs.Says.{one_says_no, one_more_says}
use Rattle.schema_solver.proofs.monotone.table_says.Goals as goal

pub returns-then-not-node_says : goal.returns-then-not-node_says
returns-then-not-node_says g c =
    let says = λ (k : g.row.K.Denot). g.K.Validate.says_monotone (g.K.Validate.shape k) in
    record { says = sym (one_says_no says c.args.nodes.now c.loop-number.number _ c.node.ensures.found (sym c.node_says.ensures.says ∙ c.if-not-node_says.true)) }

pub loop-number-preserved : goal.loop-number-preserved
loop-number-preserved g c =
    let says = λ (k : g.row.K.Denot). g.K.Validate.says_monotone (g.K.Validate.shape k) in
    one_more_says says c.args.nodes.now c.loop-number.number _ c.node.ensures.found (sym c.node_says.ensures.says ∙ c.if-not-node_says.false) c.loop-number.invariant
