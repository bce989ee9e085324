use Rattle.pattern_rows.proofs.Bits.{with_bit}
use Rattle.pattern_rows.proofs.word.with.Goals as goal

pub returns : goal.returns
returns c = record { bits = λ k. with_bit c.args.a c.args.bit c.requires.within k }
