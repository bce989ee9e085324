use Rattle.std.proofs.Common.{ap, ◌∙◌}
use Rattle.pattern_matcher.specs.PatternMatching.{is_readable}
use Rattle.pattern_matcher.proofs.Finding.{some_alike}
use Rattle.pattern_matcher.proofs.read_pattern.ReadPattern.is_readable.Goals as goal

pub returns : goal.returns
returns c = record { readable = c.is_some.ensures ∙ some_alike _ _ c.self.invariant.0 ∙ ap is_readable c.self.view_is }
