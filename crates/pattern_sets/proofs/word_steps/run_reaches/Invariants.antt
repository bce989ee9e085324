use Rattle.std.proofs.Common.{◌-◌}
use Rattle.pattern_sets.specs.Images.{in_word}
use Rattle.pattern_sets.proofs.Seeking.{Unmet}
use Rattle.pattern_sets.proofs.word_steps.run_reaches.Given as goal

abbrev pub invariant-search : goal.invariant-search
invariant-search l = Unmet l.run.spans.items l.last.spans.items l.text (in_word l.from) l.i

abbrev pub decreases-search : goal.decreases-search
decreases-search l = 64 - l.i
