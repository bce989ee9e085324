use Rattle.std.proofs.Common.{arith}
use Rattle.schema_run_steps.proofs.question.Question.depth_below.Goals as goal

pub returns : goal.returns
returns c = record {
  deeper = λ deep.
      let sum = c.saturating_add.ensures in
      omega (arith, deep, sum);
}
