use Rattle.std.proofs.Common.{◌∙◌}
use Rattle.std.proofs.lemmas.Result.{IfOk-weaker}
use Rattle.pattern_matcher.proofs.Tables.{careful_tells}
use Rattle.pattern_matcher.proofs.matcher.PatternMatcher.new.Goals as goal

pub returns-clause-tells : goal.returns-clause-tells
returns-clause-tells c =
    IfOk-weaker c.with_treatment.result _ _ (λ m same. careful_tells c.args.patterns m (same ∙ c.treatment-treatment.ensures.careful)) c.with_treatment.ensures.treatment
