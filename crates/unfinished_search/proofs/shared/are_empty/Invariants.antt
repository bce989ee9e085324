use Rattle.std.proofs.Common.{◌≡◌, drop, map}
use Rattle.std.specs.List.{list_all}
use Rattle.unfinished_search.specs.SharedResults.{is_empty}
use Rattle.unfinished_search.proofs.shared.are_empty.Given as goal

abbrev pub invariant-loop-i : goal.invariant-loop-i
invariant-loop-i l = list_all is_empty (map (λ r. r.items) l.results) ≡ list_all is_empty (map (λ r. r.items) (drop l.i l.results))
