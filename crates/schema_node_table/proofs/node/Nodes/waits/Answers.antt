use Rattle.std.proofs.Common.{◌∙◌, ap}
use Rattle.std.specs.Prelude.{not}
use Rattle.schema_node_table.proofs.FilledNumbers.{has_no_round, has_round}
use Rattle.schema_node_table.proofs.node.Nodes.waits.Goals as goal

pub returns-clause-waits : goal.returns-clause-waits
returns-clause-waits g c = λ e. rw (← c.self.view_is) (has_no_round c.self.inside.nodes.items c.args.node.0 c.index.result.now (rw (← c.self.view_is) at c.requires.within) c.index.ensures c.self.inside.finished c.self.invariant.ordered (c.is_none.ensures ∙ ap not e))

pub returns-clause-begun : goal.returns-clause-begun
returns-clause-begun g c = λ e. rw (← c.self.view_is) (has_round c.self.inside.nodes.items c.args.node.0 c.index.result.now (rw (← c.self.view_is) at c.requires.within) c.index.ensures (c.is_none.ensures ∙ ap not e))
