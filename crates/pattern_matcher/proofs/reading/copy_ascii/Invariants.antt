use Rattle.std.proofs.Common.{ℕ, ◌≡◌, ◌<◌, ◌≤◌, get_or, length, take}
use Rattle.pattern_matcher.proofs.reading.copy_ascii.Given as goal

abbrev pub invariant-loop-i : goal.invariant-loop-i
invariant-loop-i l = record {
  size : length l.buffer ≡ length l.initial.buffer;
  copied : take l.i l.buffer ≡ take l.i l.bytes;
  seen : (k : ℕ) → k < l.i → get_or l.bytes k 0 ≤ l.seen;
}
