use Rattle.std.proofs.Common.{◌∙◌, ap, arith}
use Rattle.theory_definitions.specs.Runs.{without_last}
use Rattle.schema_run_context.proofs.MarkLists.{left_marks}
use Rattle.schema_run_context.proofs.marks.Marks.exit.Goals as goal

pub returns : goal.returns
returns c = record { left = left_marks c.self.inside.marks.items c.pop.new.self.items c.pop.result c.pop.ensures.items (λ q. let k = rw q at c.pop.ensures.cases in omega (arith, k.1, c.pop.new.self.ok.0)) ∙ ap without_last c.self.view_is }
