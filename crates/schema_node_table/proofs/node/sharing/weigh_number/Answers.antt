use Rattle.std.proofs.Common.{◌≡◌, ◌<◌, ◌∙◌, arith, length}
use Rattle.std.proofs.Math.ListN.{length-set}
use Rattle.std.proofs.lemmas.List.{get_or_read}
use Rattle.std.specs.Prelude.{slice_index_or}
use Rattle.schema_node_table.proofs.ClosedNumbers.{closed_at}
use Rattle.schema_node_table.proofs.node.sharing.weigh_number.Goals as goal

pub returns : goal.returns
returns g c =
    let ns = c.args.nodes.now in
    let ws = c.args.weights.now.items in
    let i = c.args.number in
    let within : i < length ws = omega (arith, c.if-len-number.false, c.len.ensures.count, c.requires.each) in
    let was : c.index-weight.result.now ≡ slice_index_or ws i 0 = get_or_read ws i c.index-weight.result.now within c.index-weight.ensures 0 in
    record {
      each = length-set ws i c.next_weight-next.result ∙ c.requires.each;
      closed = closed_at ns ws c.as_slice.result.now i c.index-weight.result.now c.next_weight-next.result _ c.as_slice.ensures.value c.node.ensures.found within was c.next_weight-next.ensures.kept c.next_weight-next.ensures.closes c.requires.closed;
    }
