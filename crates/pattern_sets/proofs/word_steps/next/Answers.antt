use Rattle.std.proofs.Common.{arith}
use Rattle.pattern_rows.proofs.Bits.{no_high_bit}
use Rattle.pattern_sets.proofs.word_steps.next.Goals as goal

pub returns-then-from-ge64 : goal.returns-then-from-ge64
returns-then-from-ge64 c = record { next = λ k h. no_high_bit c.args.word k (omega arith) (omega arith) }
