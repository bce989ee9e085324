use Rattle.meta_checker.proofs.Programs.{each_with, has_program, keeps_programs}
use Rattle.standard_meta.proofs.meta.MetaSchemas.compile.Goals as goal

pub returns-clause-compiled : goal.returns-clause-compiled
returns-clause-compiled c = rw (c.set.ensures.set, c.known-draft.ensures.known) (has_program _ _ _)

pub returns-clause-kept : goal.returns-clause-kept
returns-clause-kept c = λ d had. rw c.set.ensures.set (keeps_programs _ _ _ d had)

pub returns-clause-each : goal.returns-clause-each
returns-clause-each c = λ each. rw (c.set.ensures.set, c.known-draft.ensures.known)
    (each_with _ _ _ _ (rw c.known-draft.ensures.known at c.in_ok-checker.ensures.means) each)
