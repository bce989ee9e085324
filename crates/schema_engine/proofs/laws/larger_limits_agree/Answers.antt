use Rattle.schema_engine.proofs.Nesting as lemmas
use Rattle.schema_engine.proofs.laws.larger_limits_agree.Goals as goal

pub returns-clause-verdict : goal.returns-clause-verdict
returns-clause-verdict c s = λ resolver table matcher. lemmas.larger_verdicts c.S.Resolver c.T.KeywordTable c.K.Validate c.M.Matcher resolver table matcher

pub returns-clause-first : goal.returns-clause-first
returns-clause-first c s = λ resolver table matcher. lemmas.larger_first_errors c.S.Resolver c.T.KeywordTable c.K.Validate c.M.Matcher resolver table matcher

pub returns-clause-errors : goal.returns-clause-errors
returns-clause-errors c s = λ resolver table matcher. lemmas.larger_errors c.S.Resolver c.T.KeywordTable c.K.Validate c.M.Matcher resolver table matcher

pub returns-clause-evaluation : goal.returns-clause-evaluation
returns-clause-evaluation c s = λ resolver table matcher. lemmas.larger_evaluations c.S.Resolver c.T.KeywordTable c.K.Validate c.M.Matcher resolver table matcher
