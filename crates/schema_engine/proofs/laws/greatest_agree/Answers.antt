use Rattle.schema_engine.proofs.GreatestCalls as lemmas
use Rattle.schema_engine.proofs.laws.greatest_agree.Goals as goal

pub returns-clause-answers : goal.returns-clause-answers
returns-clause-answers c s = λ resolver table matcher. lemmas.greatest_answers_agree c.S.Resolver c.T.KeywordTable c.K.Validate c.M.Matcher resolver table matcher

pub returns-clause-verdict : goal.returns-clause-verdict
returns-clause-verdict c s = λ resolver table matcher. lemmas.greatest_verdicts_agree c.S.Resolver c.T.KeywordTable c.K.Validate c.M.Matcher resolver table matcher
