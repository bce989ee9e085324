use Rattle.std.proofs.Common.{◌≡◌, drop}
use Rattle.bench_parts.specs.BenchMatching.{begins_with}
use Rattle.bench_parts.proofs.matcher.begins_with.Given as goal

abbrev pub invariant-loop-place : goal.invariant-loop-place
invariant-loop-place l = begins_with l.pattern l.text ≡ begins_with (drop l.place l.pattern) (drop l.place l.text)
