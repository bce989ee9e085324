use Rattle.std.proofs.Common.{◌≡◌, drop}
use Rattle.std.specs.List.{list_any}
use Rattle.pattern_matcher.specs.PatternMatching.{is_unreadable}
use Rattle.pattern_matcher.proofs.patterns.Patterns.has_unreadable.Given as goal

abbrev pub invariant-loop-read : goal.invariant-loop-read
invariant-loop-read l = list_any is_unreadable l.read-items ≡ list_any is_unreadable (drop l.read-index l.read-items)
