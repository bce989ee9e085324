use Rattle.pattern_rows.proofs.Bits.{ones_bit}
use Rattle.pattern_rows.proofs.word.ones.Goals as goal

pub returns : goal.returns
returns c = record { bits = λ k. ones_bit c.args.count c.requires.within k }
