use Rattle.std.proofs.Common.{◌∙◌, ap, string_bytes, not}
use Rattle.schema_traits.specs.KeywordViews.{reply_of}
use Rattle.schema_node_table.specs.NodeViews.{node_of}
use Rattle.schema_run_steps.proofs.Stamped.{stamps_nothing, stays_none}
use Rattle.schema_run_steps.proofs.replies.stamped_reply.Goals as goal

pub returns-then-is_none-clause-stamped : goal.returns-then-is_none-clause-stamped
returns-then-is_none-clause-stamped g c = λ texts.
    stamps_nothing (node_of c.args.node.now) c.args.name.now (reply_of texts c.args.reply) (stays_none string_bytes c.args.node.now.base (c.is_none.ensures ∙ ap not c.if-is_none.true))
