use Rattle.std.proofs.Common.{ℕ, ◌+◌, length, not, true}
use Rattle.pattern_trees.specs.Patterns.{One}
use Rattle.pattern_sets.specs.Images.{IsImageBut, in_word, leads}
use Rattle.pattern_sets.proofs.Leading.{IsPartOf}
use Rattle.pattern_sets.proofs.Reaching.{missing}
use Rattle.pattern_sets.proofs.word_steps.steps_on.Given as goal

abbrev pub invariant-steps : goal.invariant-steps
invariant-steps l = record {
  but : IsImageBut (in_word l.left) (leads true (One l.set.spans.items) l.text) (in_word l.from) (in_word l.to);
  part : IsPartOf (in_word l.left) (in_word l.from);
}

abbrev pub decreases-steps : goal.decreases-steps
decreases-steps l = missing (λ (k : ℕ). not (in_word l.left k)) (length l.text + 64)
