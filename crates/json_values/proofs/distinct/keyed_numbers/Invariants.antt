use Rattle.std.proofs.Common.{◌≡◌, map, take, vec_len}
use Rattle.json_values.specs.Keys.{keyed_number, keyed_value}
use Rattle.json_values.proofs.distinct.keyed_numbers.Given as goal

abbrev pub invariant-loop-value : goal.invariant-loop-value
invariant-loop-value l = (vec_len l.keyed ≡ l.value-index) × (map keyed_number l.keyed.items ≡ map keyed_value (take l.value-index l.values))
