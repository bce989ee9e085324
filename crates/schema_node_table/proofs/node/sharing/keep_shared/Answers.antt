use Rattle.std.proofs.Common.{◌≡◌, ◌<◌, ◌∙◌, arith, length}
use Rattle.std.proofs.Math.ListN.{length-set}
use Rattle.std.proofs.lemmas.List.{get_or_read}
use Rattle.std.specs.Prelude.{slice_index_or}
use Rattle.schema_node_table.proofs.ClosedNumbers.{kept_one}
use Rattle.schema_node_table.proofs.node.sharing.keep_shared.Goals as goal

pub loop-number-preserved : goal.loop-number-preserved
loop-number-preserved c =
    let ws = c.loop-number.weights.items in
    let i = c.loop-number.number in
    let within : i < length ws = omega (arith, c.loop-number-test.true, c.len-number-end.ensures, c.loop-number.invariant.each) in
    let was : c.index.result.now ≡ slice_index_or ws i 0 = get_or_read ws i c.index.result.now within c.index.ensures 0 in
    record {
      each = length-set ws i c.kept_weight-weight.result ∙ c.loop-number.invariant.each;
      same = kept_one ws c.args.weights.now.items i c.index.result.now c.kept_weight-weight.result within was c.kept_weight-weight.ensures.kept c.loop-number.invariant.same;
    }
