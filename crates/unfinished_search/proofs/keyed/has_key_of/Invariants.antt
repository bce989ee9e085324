use Rattle.std.proofs.Common.{◌≡◌, drop}
use Rattle.unfinished_search.specs.SharedResults.{has_key}
use Rattle.unfinished_search.proofs.keyed.has_key_of.Given as goal

abbrev pub invariant-loop-i : goal.invariant-loop-i
invariant-loop-i l = has_key l.errors l.error ≡ has_key (drop l.i l.errors) l.error
