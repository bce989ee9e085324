use Rattle.pattern_trees.proofs.Bits.{with_bit}
use Rattle.pattern_trees.proofs.char_set.with.Goals as goal

pub returns : goal.returns
returns c = record { bits = with_bit c.args.word c.args.bit c.requires.within }
