use Rattle.schema_run_steps.proofs.replies.joined_first.Goals as goal

pub returns-in-Some-clause-borrows : goal.returns-in-Some-clause-borrows
returns-in-Some-clause-borrows c = λ root h g. rw c.in-Some.is at h
