use Rattle.std.proofs.Common.{◌≡◌, take, true}
use Rattle.theory_definitions.specs.Pointer.{escaped}
use Rattle.schema_reports.proofs.location.is_bare.Given as goal

abbrev pub invariant-loop-byte : goal.invariant-loop-byte
invariant-loop-byte l = l.bare ≡ true → escaped (take l.byte-index l.name) ≡ take l.byte-index l.name
