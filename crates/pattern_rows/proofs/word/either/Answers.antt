use Rattle.pattern_rows.proofs.Bits.{or_bit}
use Rattle.pattern_rows.proofs.word.either.Goals as goal

pub returns : goal.returns
returns c = record { bits = λ k. or_bit c.args.a c.args.b k }
