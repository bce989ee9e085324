use Rattle.std.proofs.Common.{◌≡◌, ◌++◌, map, string_bytes}
use Rattle.std.specs.Map.{keys_of}
use Rattle.std.specs.Rc.{rc_str_bytes}
use Rattle.schema_traits.proofs.ascending.AscendingNames.of_members.Given as goal

abbrev pub invariant-loop-name : goal.invariant-loop-name
invariant-loop-name l = map rc_str_bytes l.names.items ++ map string_bytes (keys_of l.name-iterator) ≡ map string_bytes (keys_of l.members.entries)
