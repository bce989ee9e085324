use Rattle.std.proofs.Common.{map, nat_eq, take}
use Rattle.std.specs.HashMap.{get}
use Rattle.unfinished_matches.specs.HashIndex.{IsIndexed, match_hash}
use Rattle.unfinished_matches.proofs.assumptions.indexed.Given as goal

abbrev pub invariant-loop-i : goal.invariant-loop-i
invariant-loop-i l = IsIndexed (map (λ a. match_hash a.pair) (take l.i l.list)) (get nat_eq l.positions)
