use Rattle.std.proofs.Common.{◌≡◌, ◌-◌, ◌<◌, ◌∙◌, arith, length}
use Rattle.std.proofs.Math.ListN.{length-set}
use Rattle.std.proofs.lemmas.List.{get_or_read}
use Rattle.std.specs.Prelude.{min}
use Rattle.schema_solver_state.specs.Following.{edges_from, edges_weight, weight_in}
use Rattle.schema_solver_state.proofs.Weighing.{covers_less, weighs_number}
use Rattle.schema_solver_state.proofs.weights.weigh_each.Goals as goal

pub loop-number-preserved-then-weight-index : goal.loop-number-preserved-then-weight-index
loop-number-preserved-then-weight-index g c =
    let ns = c.args.nodes.now in
    let ws = c.loop-number.weights.items in
    let i = c.loop-number.number - 1 in
    let within : i < length ws = omega (arith, c.loop-number-test.true, c.len-number.ensures.count, c.loop-number.invariant.each) in
    let was : c.index.result.now ≡ weight_in ws i = get_or_read ws i c.index.result.now within c.index.ensures 255 in
    let below : c.weigh_node-below.result ≡ min 255 (edges_weight ws (edges_from ns i)) = weighs_number ns ws c.as_slice.result.now i c.weigh_node-below.result _ c.as_slice.ensures.value c.node.ensures.found c.weigh_node-below.ensures.weight in
    record {
      each = length-set ws i c.saturating_add-weight.result ∙ c.loop-number.invariant.each;
      covers = covers_less ns ws i c.saturating_add-weight.result c.weigh_node-below.result within (omega (arith, was, c.if-weight-index.true)) below c.saturating_add-weight.ensures c.loop-number.invariant.covers;
    }
