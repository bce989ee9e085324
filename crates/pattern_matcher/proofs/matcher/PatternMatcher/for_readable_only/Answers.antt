use Rattle.std.proofs.Common.{◌∙◌, ap}
use Rattle.std.proofs.lemmas.Result.{IfOk-weaker}
use Rattle.pattern_matcher.specs.PatternMatching.{readable_only}
use Rattle.pattern_matcher.proofs.Tables.{readable_only_distinct}
use Rattle.pattern_matcher.proofs.matcher.PatternMatcher.for_readable_only.Goals as goal

pub returns : goal.returns
returns c = record {
  readable = IfOk-weaker c.with_treatment.result _ _ (λ m same. same ∙ (c.readable_only-treatment.ensures.readable ∙ (ap readable_only c.in_ok-patterns.ensures.patterns ∙ readable_only_distinct _))) c.with_treatment.ensures.treatment;
}
