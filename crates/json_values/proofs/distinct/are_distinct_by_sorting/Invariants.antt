use Rattle.std.proofs.Common.{◌≡◌, ℕ, ◌+◌, ◌<◌, false, get_or}
use Rattle.json_values.proofs.distinct.are_distinct_by_sorting.Given as goal

abbrev pub invariant-loop-later : goal.invariant-loop-later
invariant-loop-later g l = (k : ℕ) (d : _) → k + 1 < l.later → g.T.PartialEq.eq (get_or l.items k d) (get_or l.items (k + 1) d) ≡ false
