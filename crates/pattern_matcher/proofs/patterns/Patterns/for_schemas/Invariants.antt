use Rattle.std.proofs.Common.{◌≡◌, map, string_bytes, take}
use Rattle.pattern_matcher.specs.PatternTables.{distinct}
use Rattle.pattern_matcher.proofs.patterns.Patterns.for_schemas.Given as goal

abbrev pub invariant-loop-text : goal.invariant-loop-text
invariant-loop-text l = l.patterns ≡ distinct (map string_bytes (take l.text-index l.text-items))
