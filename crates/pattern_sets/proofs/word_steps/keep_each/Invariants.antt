use Rattle.std.proofs.Common.{◌≡◌, ◌-◌, ℕ}
use Rattle.pattern_trees.specs.Patterns.{IsAt}
use Rattle.pattern_sets.specs.Images.{IsImageBelow, in_word}
use Rattle.pattern_sets.proofs.word_steps.keep_each.Given as goal

abbrev pub invariant-steps : goal.invariant-steps
invariant-steps l = IsImageBelow l.i (λ (i j : ℕ). IsAt l.fn.edge l.text i × (i ≡ j)) (in_word l.from) (in_word l.to)

abbrev pub decreases-steps : goal.decreases-steps
decreases-steps l = 64 - l.i
