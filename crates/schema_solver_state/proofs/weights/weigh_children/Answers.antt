use Rattle.std.proofs.Common.{◌<◌, length, arith}
use Rattle.schema_solver_state.proofs.Weighing.{weighs_child_none, weighs_child_some}
use Rattle.schema_solver_state.proofs.weights.weigh_children.Goals as goal
use Rattle.schema_solver_state.proofs.weights.weigh_children.Goals.{in-Some, in_default}

pub loop-child-preserved : goal.loop-child-preserved
loop-child-preserved c =
    let cs = c.args.children.now in
    let ws = c.args.weights.now in
    let i = c.loop-child.child-index in
    let was = c.loop-child.weight in
    let l : i < length cs = omega arith in
    elim c.match-child.branch [
      | in-Some w ↦ rw w.weight-is (weighs_child_some ws cs i c.child-item.result w.in-Some.edge was w.weigh_edge.result w.saturating_add-weight.result l c.child-item.is w.in-Some.is c.loop-child.invariant w.weigh_edge.ensures.weight w.saturating_add-weight.ensures)
      | in_default w ↦ rw w.weight-is (weighs_child_none ws cs i c.child-item.result was l c.child-item.is w.in_default.is c.loop-child.invariant)
    ]
