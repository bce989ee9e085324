use Rattle.std.proofs.Common.{sym}
use Rattle.std.specs.Prelude.{map, string_bytes}
use Rattle.theory_definitions.proofs.VocabularyLists.{custom_of-listed, flags}
use Rattle.schema_drafts.proofs.keywords.vocabularies.VocabularySet.custom.Goals as goal

pub returns-clause-custom : goal.returns-clause-custom
returns-clause-custom c = rw (c.deref.ensures.value, ← c.self.view_is) (sym (custom_of-listed (flags c.self.inside.core c.self.inside.applicator c.self.inside.unevaluated c.self.inside.validation c.self.inside.metadata c.self.inside.format c.self.inside.format_annotation c.self.inside.format_assertion c.self.inside.content) (map string_bytes c.self.inside.custom.items)))

pub returns-clause-rising : goal.returns-clause-rising
returns-clause-rising c = rw (← c.self.view_is, custom_of-listed (flags c.self.inside.core c.self.inside.applicator c.self.inside.unevaluated c.self.inside.validation c.self.inside.metadata c.self.inside.format c.self.inside.format_annotation c.self.inside.format_assertion c.self.inside.content) (map string_bytes c.self.inside.custom.items)) c.self.invariant
