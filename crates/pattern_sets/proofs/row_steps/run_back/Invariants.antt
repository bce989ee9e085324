use Rattle.std.proofs.Common.{false, ◌≡◌, ◌<◌, ◌≤◌, ◌/◌, length}
use Rattle.pattern_trees.specs.Patterns.{One}
use Rattle.pattern_rows.specs.Rows.{has, width}
use Rattle.pattern_sets.specs.Images.{leads}
use Rattle.pattern_sets.proofs.Reaching.{Running}
use Rattle.pattern_sets.proofs.row_steps.run_back.Given as goal

abbrev pub invariant-steps : goal.invariant-steps
invariant-steps l = record {
  within : l.m ≤ length l.text;
  width_to : width l.to ≡ length l.text / 64;
  width_from : width l.fn.from ≡ length l.text / 64;
  running : Running (leads false (One l.set.spans.items) l.text) (λ x. l.m < x) (has l.fn.from) (has l.to);
}

abbrev pub decreases-steps : goal.decreases-steps
decreases-steps l = l.m
