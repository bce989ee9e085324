use Rattle.std.proofs.Common.{◌≡◌, ◌++◌, drop, map, string_bytes}
use Rattle.bench_parts.proofs.matcher.push_copies.Given as goal

abbrev pub invariant-loop-text : goal.invariant-loop-text
invariant-loop-text l = map string_bytes l.initial.copies.items ++ map string_bytes l.texts ≡ map string_bytes l.copies.items ++ map string_bytes (drop l.text-index l.texts)
