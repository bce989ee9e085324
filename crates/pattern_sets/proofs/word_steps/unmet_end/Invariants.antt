use Rattle.std.proofs.Common.{ℕ, ◌<◌, ◌≤◌}
use Rattle.pattern_sets.specs.Images.{IsTaken}
use Rattle.pattern_sets.proofs.word_steps.unmet_end.Given as goal

abbrev pub invariant-run : goal.invariant-run
invariant-run l = record {
  taken : (k : ℕ) → l.from ≤ k → k < l.at → IsTaken l.run.spans.items l.text k;
  unmet : (k : ℕ) → l.from ≤ k → k < l.at → ¬ (IsTaken l.last.spans.items l.text k);
}
