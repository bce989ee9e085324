use Rattle.std.proofs.Common.{arith, Some, sym, ◌∙◌, ap, subst}
use Rattle.std.proofs.lemmas.Option.{slice_get-get_or}
use Rattle.schema_node_table.specs.NodeViews.{plan_of}
use Rattle.schema_node_table.specs.NodeTable.{MayBeFilled}
use Rattle.schema_node_table.proofs.ClosedNumbers.{closed_none}
use Rattle.schema_node_table.proofs.NodesFilled.{no_more_than, stays_ordered, fills, comes_last, within, open_reserved}
use Rattle.schema_node_table.proofs.node.Nodes.fill.Goals as goal

pub prove-unreachable-requires : goal.prove-unreachable-requires
prove-unreachable-requires g c =
    let ready = subst (λ ns. MayBeFilled ns c.args.node.0 c.args.settled (plan_of c.args.form)) (sym c.self.view_is) c.requires.ready in
    let b = no_more_than c.self.inside.nodes.items c.args.node.0 c.self.inside.finished (open_reserved c.self.inside.nodes.items c.args.node.0 c.args.settled c.args.form ready) c.self.invariant.ordered in
    omega (arith, b, c.len.ensures, c.if-prove.true)

pub overflow_add-self : goal.overflow_add-self
overflow_add-self g c =
    let ready = subst (λ ns. MayBeFilled ns c.args.node.0 c.args.settled (plan_of c.args.form)) (sym c.self.view_is) c.requires.ready in
    let b = no_more_than c.self.inside.nodes.items c.args.node.0 c.self.inside.finished (open_reserved c.self.inside.nodes.items c.args.node.0 c.args.settled c.args.form ready) c.self.invariant.ordered in
    let h = c.self.inside.nodes.ok in
    let t = c.len.type_inv in
    omega (arith, b, h.0, t, c.len.ensures)

pub index_mut-place-requires : goal.index_mut-place-requires
index_mut-place-requires g c =
    let ready = subst (λ ns. MayBeFilled ns c.args.node.0 c.args.settled (plan_of c.args.form)) (sym c.self.view_is) c.requires.ready in
    let w = within c.self.inside.nodes.items c.args.node.0 (open_reserved c.self.inside.nodes.items c.args.node.0 c.args.settled c.args.form ready) in
    let h = c.self.inside.nodes.ok in omega (arith, w, h.0)

pub invariant_of-self : goal.invariant_of-self
invariant_of-self g c =
    let ready = subst (λ ns. MayBeFilled ns c.args.node.0 c.args.settled (plan_of c.args.form)) (sym c.self.view_is) c.requires.ready in
    let w = within c.self.inside.nodes.items c.args.node.0 (open_reserved c.self.inside.nodes.items c.args.node.0 c.args.settled c.args.form ready) in
    let at = slice_get-get_or c.self.inside.nodes.items c.args.node.0 c.index_mut-place.result.now w ∙ ap Some (sym c.index_mut-place.ensures.value) in
    record { ordered = stays_ordered c.self.inside.nodes.items c.args.node.0 c.self.inside.finished c.index_mut-place.result.now at c.self.invariant.ordered c.args.settled c.args.annotations c.args.form ready; closed = closed_none _ _ c.clear.ensures.items }

pub returns-clause-filled : goal.returns-clause-filled
returns-clause-filled g c =
    let ready = subst (λ ns. MayBeFilled ns c.args.node.0 c.args.settled (plan_of c.args.form)) (sym c.self.view_is) c.requires.ready in
    let w = within c.self.inside.nodes.items c.args.node.0 (open_reserved c.self.inside.nodes.items c.args.node.0 c.args.settled c.args.form ready) in
    let at = slice_get-get_or c.self.inside.nodes.items c.args.node.0 c.index_mut-place.result.now w ∙ ap Some (sym c.index_mut-place.ensures.value) in
    rw (← c.self.view_is) (fills c.self.inside.nodes.items c.args.node.0 c.self.inside.finished c.index_mut-place.result.now at c.self.invariant.ordered c.args.settled c.args.annotations c.args.form ready)

pub returns-clause-last : goal.returns-clause-last
returns-clause-last g c =
    let ready = subst (λ ns. MayBeFilled ns c.args.node.0 c.args.settled (plan_of c.args.form)) (sym c.self.view_is) c.requires.ready in
    let w = within c.self.inside.nodes.items c.args.node.0 (open_reserved c.self.inside.nodes.items c.args.node.0 c.args.settled c.args.form ready) in
    let at = slice_get-get_or c.self.inside.nodes.items c.args.node.0 c.index_mut-place.result.now w ∙ ap Some (sym c.index_mut-place.ensures.value) in
    rw (← c.self.view_is) (comes_last c.self.inside.nodes.items c.args.node.0 c.self.inside.finished c.index_mut-place.result.now at c.self.invariant.ordered c.args.settled c.args.annotations c.args.form ready)
