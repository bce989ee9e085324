use Rattle.std.proofs.Common.{◌≡◌, drop, false}
use Rattle.standard_subschemas.specs.DocumentPointers.{has_whole_escapes}
use Rattle.standard_subschemas.proofs.pointers.has_whole_escapes.Given as goal

abbrev pub invariant-loop-byte : goal.invariant-loop-byte
invariant-loop-byte l = has_whole_escapes false l.pointer ≡ has_whole_escapes l.begun (drop l.byte-index l.pointer)
