use Rattle.std.proofs.Common.{arith}
use Rattle.pattern_rows.proofs.Bits.{without_any_bit}
use Rattle.pattern_rows.proofs.word.without.Goals as goal

pub returns : goal.returns
returns c = record { bits = λ k. without_any_bit c.args.a c.args.b k (omega arith) (omega arith) }
