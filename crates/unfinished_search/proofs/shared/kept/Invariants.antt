use Rattle.std.proofs.Common.{◌++◌, ◌≡◌, filter, reverse, vec_len}
use Rattle.unfinished_search.specs.SharedResults.{in_each_of}
use Rattle.unfinished_search.proofs.shared.kept.Given as goal

abbrev pub invariant-loop-error : goal.invariant-loop-error
invariant-loop-error l = l.kept.items ++ filter (in_each_of l.results) (reverse l.left.items) ≡ filter (in_each_of l.results) l.fn.errors.items

abbrev pub decreases-loop-error : goal.decreases-loop-error
decreases-loop-error l = vec_len l.left
