use Rattle.std.proofs.Common.{◌∙◌, ap₂}
use Rattle.theory_definitions.specs.Guarded.{same_node}
use Rattle.schema_run_context.proofs.marks.lead_to_one.Goals as goal

pub returns-in-Some-child_edge : goal.returns-in-Some-child_edge
returns-in-Some-child_edge c = record { one = c.are_alike.ensures.alike ∙ ap₂ same_node c.in-Some.ensures.edge c.in-Some-child_edge.ensures.edge }
