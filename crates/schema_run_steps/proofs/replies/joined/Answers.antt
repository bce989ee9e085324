use Rattle.schema_traits.proofs.Replies.{if_ok_mono}
use Rattle.schema_run_steps.proofs.replies.joined.Goals as goal

pub returns-in-First-clause-borrows : goal.returns-in-First-clause-borrows
returns-in-First-clause-borrows c = λ root h g. c.joined_first.ensures.borrows root (rw c.in-First.is at h) g

pub returns-in-All-clause-borrows : goal.returns-in-All-clause-borrows
returns-in-All-clause-borrows c = if_ok_mono c.joined_all.result _ _ (λ r both root h g. both root (rw c.in-All.is at h) g) c.joined_all.ensures.borrows
