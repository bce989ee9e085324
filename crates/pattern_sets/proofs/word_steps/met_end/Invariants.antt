use Rattle.std.proofs.Common.{ℕ, ◌≡◌, ◌≤◌, ◌<◌, ◌⊎◌, true}
use Rattle.pattern_sets.specs.Images.{IsTaken, in_word}
use Rattle.pattern_sets.proofs.word_steps.met_end.Given as goal

abbrev pub invariant-run : goal.invariant-run
invariant-run l = record {
  run : (k : ℕ) → l.from ≤ k → k < l.at → IsTaken l.fn.run.spans.items l.text k;
  taken : (k : ℕ) → in_word l.met k ≡ true → (in_word l.word k ≡ true) ⊎ IsTaken l.other.spans.items l.text k;
  kept : (k : ℕ) → in_word l.word k ≡ true → in_word l.met k ≡ true;
  met : (k : ℕ) → l.from ≤ k → k < l.at → IsTaken l.other.spans.items l.text k → in_word l.met k ≡ true;
}
