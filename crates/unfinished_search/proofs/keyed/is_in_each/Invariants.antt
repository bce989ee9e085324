use Rattle.std.proofs.Common.{◌≡◌, drop}
use Rattle.unfinished_search.specs.SharedResults.{in_each_of}
use Rattle.unfinished_search.proofs.keyed.is_in_each.Given as goal

abbrev pub invariant-loop-i : goal.invariant-loop-i
invariant-loop-i l = in_each_of l.results l.error ≡ in_each_of (drop l.i l.results) l.error
