use Rattle.std.proofs.Common.{◌∙◌}
use Rattle.pattern_matcher.proofs.Finding.{some_alike}
use Rattle.pattern_matcher.proofs.read_pattern.is_readable.Goals as goal

pub returns : goal.returns
returns c = record { readable = c.is_some.ensures ∙ some_alike _ _ c.in_ok-pattern.ensures.reading }
