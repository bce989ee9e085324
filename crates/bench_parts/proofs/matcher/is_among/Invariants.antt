use Rattle.std.proofs.Common.{◌≡◌, bytes_eq, drop, map, string_bytes}
use Rattle.std.specs.List.{list_any}
use Rattle.bench_parts.proofs.matcher.is_among.Given as goal

abbrev pub invariant-loop-other : goal.invariant-loop-other
invariant-loop-other l = list_any (bytes_eq l.text) (map string_bytes l.texts) ≡ list_any (bytes_eq l.text) (map string_bytes (drop l.other-index l.texts))
