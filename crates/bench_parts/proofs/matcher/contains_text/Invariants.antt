use Rattle.std.proofs.Common.{◌≡◌, drop}
use Rattle.bench_parts.specs.BenchMatching.{contains_text}
use Rattle.bench_parts.proofs.matcher.contains_text.Given as goal

abbrev pub invariant-loop-place : goal.invariant-loop-place
invariant-loop-place l = contains_text l.pattern l.text ≡ contains_text l.pattern (drop l.place l.text)
