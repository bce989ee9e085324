use Rattle.std.proofs.Common.{vec_len}
use Rattle.pattern_reader.proofs.states.+joined_to.Given as goal

abbrev pub decreases-joined_to : goal.decreases-joined_to
decreases-joined_to l = vec_len l.parts
