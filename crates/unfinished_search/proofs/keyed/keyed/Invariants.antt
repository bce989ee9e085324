use Rattle.std.proofs.Common.{◌≡◌, map}
use Rattle.unfinished_search.proofs.keyed.keyed.Given as goal

abbrev pub invariant-loop-errors : goal.invariant-loop-errors
invariant-loop-errors l = l.keyed.items ≡ map (λ r. r.items) l.yielded
