use Rattle.example_fused_keywords.proofs.keyword.FusedKeywordValidate.begin.Goals as goal

pub returns-in-Bench : goal.returns-in-Bench
returns-in-Bench c = record { begins = rw c.in-Bench.is c.begin.ensures.begins }
