use Rattle.std.proofs.Common.{ℕ, ◌≡◌, ◌≤◌, ◌<◌, ◌+◌, ◌*◌, ◌-◌, ◌/◌, length, true}
use Rattle.pattern_rows.specs.Rows.{has, width}
use Rattle.pattern_sets.specs.Images.{IsImageBelow, RunsFor}
use Rattle.pattern_sets.proofs.Running.{Scan}
use Rattle.pattern_sets.proofs.row_steps.runs_on.Given as goal

abbrev pub invariant-steps : goal.invariant-steps
invariant-steps l = record {
  width_to : width l.to ≡ length l.text / 64;
  below : IsImageBelow l.i (RunsFor l.set.spans.items l.text l.least l.most) (has l.from) (has l.to);
  scan : Scan l.set.spans.items l.text l.most l.i l.end;
  inside : l.end ≤ 64 * width l.from + 63;
  done : l.past ≤ l.end + 1;
  reached : (k : ℕ) → l.i + l.least ≤ k → k < l.past → has l.to k ≡ true;
}

abbrev pub decreases-steps : goal.decreases-steps
decreases-steps l = 64 * width l.from + 64 - l.i
