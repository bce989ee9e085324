use Rattle.std.proofs.Common.{◌∙◌, ap, map}
use Rattle.schema_node_table.specs.Cloned.{shaped_nodes}
use Rattle.schema_node_table.specs.NodeTable.{numbered}
use Rattle.schema_node_table.specs.NodeViews.{node_of}
use Rattle.schema_node_table.specs.ClosedNumbers.{has_weight}
use Rattle.schema_node_table.proofs.ClosedNumbers.{closed_copy}
use Rattle.schema_node_table.proofs.Cloned.{clone_numbered, clone_ordered}
use Rattle.schema_node_table.proofs.node.Nodes.clone.Goals as goal

pub invariant_of-result : goal.invariant_of-result
invariant_of-result g c =
    let same = c.in_ok-clone_nodes.ensures.same in
    let all = same ∙ ap (λ ns. shaped_nodes g.K.Validate.shape (map node_of ns)) c.as_slice.ensures.value in
    let copy = map node_of c.in_ok-clone_nodes.field-0.items in
    let old = map node_of c.self.inside.nodes.items in
    record {
      ordered = clone_ordered g.K.Validate.shape copy old c.self.inside.finished all c.self.invariant.ordered;
      closed = rw c.in_ok-weights.ensures.same (closed_copy g.K.Validate.shape copy old (has_weight c.self.inside.weights.items) (clone_numbered g.K.Validate.shape copy old all) c.self.invariant.closed);
    }

pub returns-clause-numbered : goal.returns-clause-numbered
returns-clause-numbered g c =
    let same = c.in_ok-clone_nodes.ensures.same in
    clone_numbered g.K.Validate.shape (map node_of c.in_ok-clone_nodes.field-0.items) (map node_of c.self.inside.nodes.items) (same ∙ ap (λ ns. shaped_nodes g.K.Validate.shape (map node_of ns)) c.as_slice.ensures.value) ∙ ap (numbered g.K.Validate.shape) c.self.view_is
