use Rattle.theory_definitions.proofs.VocabularyLists.{none_listed}
use Rattle.schema_drafts.proofs.keywords.vocabularies.VocabularySet.new.Goals as goal

pub returns : goal.returns
returns c = record { empty = rw c.new.ensures.items none_listed }
