use Rattle.schema_engine.proofs.GreatestCalls as lemmas
use Rattle.schema_engine.proofs.laws.finishing_say_greatest.Goals as goal

pub returns-clause-nodes : goal.returns-clause-nodes
returns-clause-nodes c s = lemmas.finishing_accepts c.K.Validate c.M.Matcher

pub returns-clause-schema : goal.returns-clause-schema
returns-clause-schema c s = λ resolver table matcher. lemmas.finishing_greatest c.S.Resolver c.T.KeywordTable c.K.Validate c.M.Matcher resolver table matcher
