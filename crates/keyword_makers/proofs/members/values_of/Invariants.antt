use Rattle.std.proofs.Common.{◌≡◌, ◌++◌, drop, map}
use Rattle.std.specs.Rc.{rc_str_bytes}
use Rattle.keyword_makers.specs.Members.{values_below}
use Rattle.keyword_makers.proofs.members.values_of.Given as goal

abbrev pub invariant-loop-name : goal.invariant-loop-name
invariant-loop-name l = values_below l.keyword (map rc_str_bytes l.names) ≡ l.paths.items ++ values_below l.keyword (map rc_str_bytes (drop l.name-index l.names))
