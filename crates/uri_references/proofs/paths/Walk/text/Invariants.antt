use Rattle.std.proofs.Common.{◌≡◌, ◌++◌, drop, map, string_bytes}
use Rattle.std.specs.List.{concat}
use Rattle.uri_references.proofs.paths.Walk.text.Given as goal

abbrev pub invariant-loop-piece : goal.invariant-loop-piece
invariant-loop-piece l = concat (map string_bytes l.piece-items) ≡ string_bytes l.text ++ concat (map string_bytes (drop l.piece-index l.piece-items))
