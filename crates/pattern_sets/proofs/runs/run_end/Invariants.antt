use Rattle.std.proofs.Common.{ℕ, ◌≤◌, ◌<◌}
use Rattle.pattern_sets.specs.Images.{IsTaken}
use Rattle.pattern_sets.proofs.runs.run_end.Given as goal

abbrev pub invariant-run : goal.invariant-run
invariant-run l = (k : ℕ) → l.from ≤ k → k < l.at → IsTaken l.set.spans.items l.text k
