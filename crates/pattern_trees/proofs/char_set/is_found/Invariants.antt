use Rattle.std.proofs.Common.{ℕ, ◌≤◌, ◌<◌, ◌-◌, length}
use Rattle.pattern_trees.specs.Sets.{span_at}
use Rattle.pattern_trees.proofs.char_set.is_found.Given as goal

abbrev pub invariant-halves : goal.invariant-halves
invariant-halves l = record {
  inside : l.end ≤ length l.spans;
  below : (k : ℕ) → k < l.first → (span_at l.spans k).1 < l.c;
  above : (k : ℕ) → l.end ≤ k → k < length l.spans → l.c < (span_at l.spans k).0;
}

abbrev pub decreases-halves : goal.decreases-halves
decreases-halves l = l.end - l.first
