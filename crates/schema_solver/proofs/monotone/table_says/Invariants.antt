use Rattle.std.proofs.Common.{◌≡◌, true, take}
use Rattle.schema_solver.specs.Saying.{table_says}
use Rattle.schema_solver.proofs.monotone.table_says.Given as goal

abbrev pub invariant-loop-number : goal.invariant-loop-number
invariant-loop-number g l = table_says (λ k. g.K.Validate.says_monotone (g.K.Validate.shape k)) (take l.number l.nodes) ≡ true
