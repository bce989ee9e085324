use Rattle.std.proofs.Common.{Some, sym, ◌∙◌, ap, subst}
use Rattle.std.proofs.lemmas.Option.{slice_get-get_or}
use Rattle.schema_node_table.specs.NodeTable.{Waits, IsNewRound}
use Rattle.schema_node_table.proofs.ClosedNumbers.{closed_none}
use Rattle.schema_node_table.proofs.NodesFilled.{begins, stays_ordered_begun, waits_reserved, within}
use Rattle.schema_node_table.specs.NodeViews.{node_of}
use Rattle.std.specs.Prelude.{map}
use Rattle.schema_node_table.proofs.node.Nodes.begin.Goals as goal

pub invariant_of-self : goal.invariant_of-self
invariant_of-self g c =
    let waits = subst (λ ns. Waits ns c.args.node.0) (sym c.self.view_is) c.requires.waits in
    let later = subst (λ ns. IsNewRound ns c.args.round) (sym c.self.view_is) c.requires.later in
    let w = within c.self.inside.nodes.items c.args.node.0 (waits_reserved (map node_of c.self.inside.nodes.items) c.args.node.0 waits) in
    let at = slice_get-get_or c.self.inside.nodes.items c.args.node.0 c.index_mut-place.result.now w ∙ ap Some (sym c.index_mut-place.ensures.value) in
    record { ordered = stays_ordered_begun c.self.inside.nodes.items c.args.node.0 c.self.inside.finished c.index_mut-place.result.now at c.self.invariant.ordered c.args.round waits later; closed = closed_none _ _ c.clear.ensures.items }

pub returns : goal.returns
returns g c =
    let waits = subst (λ ns. Waits ns c.args.node.0) (sym c.self.view_is) c.requires.waits in
    let later = subst (λ ns. IsNewRound ns c.args.round) (sym c.self.view_is) c.requires.later in
    let w = within c.self.inside.nodes.items c.args.node.0 (waits_reserved (map node_of c.self.inside.nodes.items) c.args.node.0 waits) in
    let at = slice_get-get_or c.self.inside.nodes.items c.args.node.0 c.index_mut-place.result.now w ∙ ap Some (sym c.index_mut-place.ensures.value) in
    record { begun = rw (← c.self.view_is) (begins c.self.inside.nodes.items c.args.node.0 c.self.inside.finished c.index_mut-place.result.now at c.self.invariant.ordered c.args.round waits later) }
