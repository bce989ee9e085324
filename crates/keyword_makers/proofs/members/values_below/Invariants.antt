use Rattle.std.proofs.Common.{◌≡◌, ◌++◌, drop, map, string_bytes}
use Rattle.keyword_makers.specs.Members.{values_below}
use Rattle.keyword_makers.proofs.members.values_below.Given as goal

abbrev pub invariant-loop-name : goal.invariant-loop-name
invariant-loop-name l = values_below l.keyword (map string_bytes l.names) ≡ l.paths.items ++ values_below l.keyword (map string_bytes (drop l.name-index l.names))
