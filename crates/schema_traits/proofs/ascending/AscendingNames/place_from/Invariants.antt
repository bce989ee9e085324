use Rattle.std.proofs.Common.{◌≡◌, ◌-◌, drop, length, map}
use Rattle.std.specs.Rc.{rc_str_bytes}
use Rattle.schema_traits.specs.Ascending.{place_from}
use Rattle.schema_traits.proofs.ascending.AscendingNames.place_from.Given as goal

abbrev pub invariant-loop-place : goal.invariant-loop-place
invariant-loop-place l = place_from l.name l.from (drop l.from (map rc_str_bytes l.names)) ≡ place_from l.name l.place (drop l.place (map rc_str_bytes l.names))

abbrev pub decreases-loop-place : goal.decreases-loop-place
decreases-loop-place l = length l.names - l.place
