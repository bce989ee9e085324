use Rattle.std.proofs.Common.{◌<◌, length, arith}
use Rattle.std.proofs.lemmas.List.{get_or_read}
use Rattle.schema_traits.specs.EdgeViews.{edge_of}
use Rattle.schema_solver_state.proofs.Ways.{counts_one}
use Rattle.schema_solver_state.proofs.followed.count_edge.Goals as goal

pub returns-then-index-lt2 : goal.returns-then-index-lt2
returns-then-index-lt2 c =
    let e = edge_of c.args.edge.now in
    let ways = c.args.ways.now.items in
    let within : e.node < length ways = omega (arith, c.if-number-len.true) in
    let is = get_or_read ways e.node c.index_mut.result.now within c.index_mut.ensures.value 0 in
    let was = get_or_read ways e.node c.index.result.now within c.index.ensures 0 in
    record { counted = counts_one e ways c.index_mut.result.now c.if-not-edge.true within is (omega (arith, is, was, c.if-index-lt2.true)) }
