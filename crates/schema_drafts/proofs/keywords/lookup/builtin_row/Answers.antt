use Rattle.schema_drafts.specs.KeywordViews.{draft_of, entry_seen}
use Rattle.schema_drafts.proofs.KeywordRows.{builtin_given}
use Rattle.schema_drafts.proofs.keywords.lookup.builtin_row.Goals as goal

pub returns-clause-row : goal.returns-clause-row
returns-clause-row c = builtin_given (draft_of c.args.draft) c.args.vocabularies.now c.args.name.now (entry_seen c.in_ok-entry.entry) c.keyword_priority.result c.keyword_is_leaf.result c.in_ok-entry.ensures.entry c.keyword_priority.ensures.priority c.keyword_is_leaf.ensures.leaf
