use Rattle.std.proofs.Common.{sym, ◌∙◌}
use Rattle.schema_node_table.proofs.FilledNumbers.{has_form, has_none}
use Rattle.schema_node_table.proofs.node.Nodes.is_filled.Goals as goal

pub returns-clause-filled : goal.returns-clause-filled
returns-clause-filled g c = λ e. rw (← c.self.view_is) (has_form c.self.inside.nodes.items c.args.node.0 c.index.result.now (rw (← c.self.view_is) at c.requires.within) c.index.ensures (sym c.is_some.ensures ∙ e))

pub returns-clause-reserved : goal.returns-clause-reserved
returns-clause-reserved g c = λ e. rw (← c.self.view_is) (has_none c.self.inside.nodes.items c.args.node.0 c.index.result.now (rw (← c.self.view_is) at c.requires.within) c.index.ensures (sym c.is_some.ensures ∙ e))
