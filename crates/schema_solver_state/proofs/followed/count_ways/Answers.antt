use Rattle.std.proofs.Common.{arith, rules}
use Rattle.std.proofs.lemmas.Grind.{common_steps}
use Rattle.schema_solver_state.proofs.Ways.{are_ways_all, are_ways_none, counts_node}
use Rattle.schema_solver_state.proofs.followed.count_ways.Goals as goal

pub loop-number-preserved : goal.loop-number-preserved
loop-number-preserved g c = counts_node c.args.nodes.now c.loop-number.number _ c.node.ensures.found c.loop-number.invariant c.count_node.ensures.counted

pub returns-clause-counted : goal.returns-clause-counted
returns-clause-counted g c =
    are_ways_all c.args.nodes.now c.loop-number.number c.in_ok-ways.ways.items c.loop-number.ways.items (omega (arith, c.loop-number-test.false)) (are_ways_none c.in_ok-ways.ways.items c.len-count.result (search (rules, common_steps))) c.loop-number.invariant
