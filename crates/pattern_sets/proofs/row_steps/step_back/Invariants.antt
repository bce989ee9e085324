use Rattle.std.proofs.Common.{◌≡◌, ◌+◌, ◌*◌, ◌-◌, ◌/◌, length}
use Rattle.pattern_trees.specs.Patterns.{Matches, One}
use Rattle.pattern_rows.specs.Rows.{has, width}
use Rattle.pattern_sets.specs.Images.{IsImageBelow}
use Rattle.pattern_sets.proofs.row_steps.step_back.Given as goal

abbrev pub invariant-steps : goal.invariant-steps
invariant-steps l = record {
  width : width l.to ≡ length l.text / 64;
  below : IsImageBelow l.i (λ i j. Matches (One l.set.spans.items) l.text j i) (has l.from) (has l.to);
}

abbrev pub decreases-steps : goal.decreases-steps
decreases-steps l = 64 * width l.from + 64 - l.i
