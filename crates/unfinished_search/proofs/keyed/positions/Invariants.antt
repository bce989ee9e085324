use Rattle.std.proofs.Common.{map, nat_eq, take}
use Rattle.std.specs.HashMap.{get}
use Rattle.unfinished_matches.specs.HashIndex.{IsIndexed}
use Rattle.unfinished_search.specs.KeyHashes.{key_hash}
use Rattle.unfinished_search.proofs.keyed.positions.Given as goal

abbrev pub invariant-loop-i : goal.invariant-loop-i
invariant-loop-i l = IsIndexed (map key_hash (take l.i l.errors)) (get nat_eq l.positions)
