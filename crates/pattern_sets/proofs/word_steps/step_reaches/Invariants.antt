use Rattle.std.proofs.Common.{ℕ, ◌≡◌, ◌<◌, ◌-◌, true}
use Rattle.pattern_sets.specs.Images.{IsTaken, in_word}
use Rattle.pattern_sets.proofs.word_steps.step_reaches.Given as goal

abbrev pub invariant-steps : goal.invariant-steps
invariant-steps l = (k : ℕ) → k < l.i → in_word l.from k ≡ true → ¬ (IsTaken l.set.spans.items l.text k)

abbrev pub decreases-steps : goal.decreases-steps
decreases-steps l = 64 - l.i
