use Rattle.standard_meta.proofs.TextReads.{all_read, drafts_from, next_draft}
use Rattle.standard_meta.proofs.documents.MetaDocuments.new.Goals as goal

pub loop-draft-preserved : goal.loop-draft-preserved
loop-draft-preserved c = next_draft _ _ _ _ _ _ c.in_ok-add_draft.ensures.added (drafts_from _ _ _ c.loop-draft-test.true) c.loop-draft.invariant

pub returns : goal.returns
returns c = record { read = all_read _ _ _ _ c.loop-draft-test.false c.loop-draft.invariant }
