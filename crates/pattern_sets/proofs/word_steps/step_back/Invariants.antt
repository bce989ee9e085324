use Rattle.std.proofs.Common.{◌-◌, false}
use Rattle.pattern_trees.specs.Patterns.{One}
use Rattle.pattern_sets.specs.Images.{IsImageBelow, in_word, leads}
use Rattle.pattern_sets.proofs.word_steps.step_back.Given as goal

abbrev pub invariant-steps : goal.invariant-steps
invariant-steps l = IsImageBelow l.i (leads false (One l.set.spans.items) l.text) (in_word l.from) (in_word l.to)

abbrev pub decreases-steps : goal.decreases-steps
decreases-steps l = 64 - l.i
