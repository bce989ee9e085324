use Rattle.pattern_rows.proofs.Bits.{and_bit}
use Rattle.pattern_rows.proofs.word.both.Goals as goal

pub returns : goal.returns
returns c = record { bits = λ k. and_bit c.args.a c.args.b k }
