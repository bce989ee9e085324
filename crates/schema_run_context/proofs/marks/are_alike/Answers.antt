use Rattle.std.proofs.Common.{◌∙◌, ◌==◌, sym}
use Rattle.schema_run_context.proofs.MarkLists.{guarded_alike, numbers_differ, open_alike}
use Rattle.schema_run_context.proofs.marks.are_alike.Goals as goal

pub returns-then-ne : goal.returns-then-ne
returns-then-ne c = record { alike = numbers_differ (c.args.edge.now.node.0 == c.args.second.now.node.0) c.args.edge.now.guarded c.args.second.now.guarded (sym c.ne.ensures ∙ c.if-ne.true) }

pub returns-then-edge : goal.returns-then-edge
returns-then-edge c = record { alike = guarded_alike (c.args.edge.now.node.0 == c.args.second.now.node.0) c.args.edge.now.guarded c.args.second.now.guarded (sym c.ne.ensures ∙ c.if-ne.false) c.if-edge.true }

pub returns-else-edge : goal.returns-else-edge
returns-else-edge c = record { alike = open_alike (c.args.edge.now.node.0 == c.args.second.now.node.0) c.args.edge.now.guarded c.args.second.now.guarded (sym c.ne.ensures ∙ c.if-ne.false) c.if-edge.false }
