use Rattle.std.proofs.Common.{◌<◌, length, arith}
use Rattle.schema_solver_state.proofs.Ways.{counts_child_none, counts_child_some}
use Rattle.schema_solver_state.proofs.followed.count_children.Goals as goal
use Rattle.schema_solver_state.proofs.followed.count_children.Goals.{in-Some, in_default}

pub loop-child-preserved : goal.loop-child-preserved
loop-child-preserved c =
    let cs = c.args.children.now in
    let i = c.loop-child.child-index in
    let l : i < length cs = omega arith in
    elim c.match-child.branch [
      | in-Some w ↦ rw w.ways-is (counts_child_some cs i c.child-item.result w.in-Some.edge l c.child-item.is w.in-Some.is c.loop-child.invariant w.count_edge.ensures.counted)
      | in_default w ↦ rw w.ways-is (counts_child_none cs i c.child-item.result l c.child-item.is w.in_default.is c.loop-child.invariant)
    ]
