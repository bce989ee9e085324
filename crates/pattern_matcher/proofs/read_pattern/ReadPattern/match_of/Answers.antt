use Rattle.pattern_matcher.proofs.Finding.{prepared_some}
use Rattle.pattern_matcher.proofs.read_pattern.ReadPattern.match_of.Goals as goal

pub text_match-requires-clause-alike : goal.text_match-requires-clause-alike
text_match-requires-clause-alike c = prepared_some c.self.inside.pattern c.in-Some.pattern c.self.inside.prepared c.in-Some.is c.self.invariant.2
