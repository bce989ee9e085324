use Rattle.std.proofs.Common.{◌≡◌, drop}
use Rattle.std.specs.List.{list_any}
use Rattle.pattern_matcher.specs.PatternMatching.{refers}
use Rattle.pattern_matcher.proofs.patterns.Patterns.has_referring.Given as goal

abbrev pub invariant-loop-read : goal.invariant-loop-read
invariant-loop-read l = list_any refers l.read-items ≡ list_any refers (drop l.read-index l.read-items)
