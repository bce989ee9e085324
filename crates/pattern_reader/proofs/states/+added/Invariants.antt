use Rattle.std.proofs.Common.{vec_len}
use Rattle.pattern_reader.proofs.states.+added.Given as goal

abbrev pub decreases-added : goal.decreases-added
decreases-added l = vec_len l.parts
