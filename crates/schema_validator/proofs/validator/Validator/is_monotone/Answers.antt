use Rattle.std.proofs.Common.{List, length, subst}
use Rattle.theory_fixed_points.specs.NodesSay.{AreMonotone}
use Rattle.schema_node_table.specs.NodeTable.{NodeEntry, numbered}
use Rattle.schema_validator.proofs.validator.Validator.is_monotone.Goals as goal

pub returns-clause-monotone : goal.returns-clause-monotone
returns-clause-monotone g c = λ yes texts.
    subst (λ (ns : List (NodeEntry g.row.K.Denot)). AreMonotone (g.K.Validate.words texts) (numbered g.K.Validate.shape ns) (length ns)) c.nodes.ensures.nodes (c.is_monotone.ensures.monotone yes texts)
