use Rattle.std.proofs.Common.{◌≡◌, drop, map, string_bytes}
use Rattle.schema_files.specs.Gathering.{is_among}
use Rattle.schema_files.proofs.gathering.is_taken.Given as goal

abbrev pub invariant-loop-other : goal.invariant-loop-other
invariant-loop-other l = is_among l.uri (map string_bytes l.taken) ≡ is_among l.uri (map string_bytes (drop l.other-index l.taken))
