use Rattle.std.proofs.Common.{◌≡◌, ◌≤◌, ◌<◌, ◌+◌, ◌==◌, ℕ, false}
use Rattle.std.specs.Int.{bit_at}
use Rattle.pattern_trees.specs.Sets.{in_set}
use Rattle.pattern_trees.proofs.char_set.bits_from.Given as goal

abbrev pub invariant-loop-bit : goal.invariant-loop-bit
invariant-loop-bit l = record {
  below : (c : ℕ) → c < l.bit → (bit_at l.word c == 1) ≡ in_set l.spans (l.first + c);
  above : (c : ℕ) → l.bit ≤ c → (bit_at l.word c == 1) ≡ false;
}
