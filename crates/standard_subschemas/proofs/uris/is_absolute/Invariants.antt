use Rattle.std.proofs.Common.{◌≡◌, drop}
use Rattle.standard_subschemas.specs.DocumentUris.{is_absolute}
use Rattle.standard_subschemas.proofs.uris.is_absolute.Given as goal

abbrev pub invariant-loop-byte : goal.invariant-loop-byte
invariant-loop-byte l = is_absolute l.uri ≡ is_absolute (drop l.byte-index l.byte-items)
