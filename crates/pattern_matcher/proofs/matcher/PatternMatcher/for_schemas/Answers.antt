use Rattle.std.proofs.Common.{◌∙◌, ap}
use Rattle.std.proofs.lemmas.Result.{IfOk-weaker}
use Rattle.pattern_matcher.specs.PatternMatching.{careful}
use Rattle.pattern_matcher.proofs.Tables.{careful_distinct}
use Rattle.pattern_matcher.proofs.matcher.PatternMatcher.for_schemas.Goals as goal

pub returns : goal.returns
returns c = record {
  careful = IfOk-weaker c.new.result _ _ (λ m same. same ∙ (ap careful c.in_ok-patterns.ensures.patterns ∙ careful_distinct _)) c.new.ensures.careful;
}
