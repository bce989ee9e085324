use Rattle.std.proofs.Common.{◌≡◌}
use Rattle.pattern_matcher.proofs.reading.chars_of.Given as goal

abbrev pub invariant-loop-c : goal.invariant-loop-c
invariant-loop-c l = l.chars.items ≡ l.yielded
