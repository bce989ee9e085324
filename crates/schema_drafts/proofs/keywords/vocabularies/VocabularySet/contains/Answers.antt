use Rattle.std.proofs.Common.{sym}
use Rattle.std.specs.Prelude.{map, string_bytes}
use Rattle.theory_definitions.proofs.VocabularyLists.{has_core, has_applicator, has_unevaluated, has_validation, has_metadata, has_format, has_format_annotation, has_format_assertion, has_content, has_other}
use Rattle.schema_drafts.proofs.keywords.vocabularies.VocabularySet.contains.Goals as goal

pub returns-in-Core : goal.returns-in-Core
returns-in-Core c = record { member = rw (c.in-Core.is, ← c.self.view_is) (sym (has_core c.self.inside.core c.self.inside.applicator c.self.inside.unevaluated c.self.inside.validation c.self.inside.metadata c.self.inside.format c.self.inside.format_annotation c.self.inside.format_assertion c.self.inside.content (map string_bytes c.self.inside.custom.items))) }

pub returns-in-Applicator : goal.returns-in-Applicator
returns-in-Applicator c = record { member = rw (c.in-Applicator.is, ← c.self.view_is) (sym (has_applicator c.self.inside.core c.self.inside.applicator c.self.inside.unevaluated c.self.inside.validation c.self.inside.metadata c.self.inside.format c.self.inside.format_annotation c.self.inside.format_assertion c.self.inside.content (map string_bytes c.self.inside.custom.items))) }

pub returns-in-Unevaluated : goal.returns-in-Unevaluated
returns-in-Unevaluated c = record { member = rw (c.in-Unevaluated.is, ← c.self.view_is) (sym (has_unevaluated c.self.inside.core c.self.inside.applicator c.self.inside.unevaluated c.self.inside.validation c.self.inside.metadata c.self.inside.format c.self.inside.format_annotation c.self.inside.format_assertion c.self.inside.content (map string_bytes c.self.inside.custom.items))) }

pub returns-in-Validation : goal.returns-in-Validation
returns-in-Validation c = record { member = rw (c.in-Validation.is, ← c.self.view_is) (sym (has_validation c.self.inside.core c.self.inside.applicator c.self.inside.unevaluated c.self.inside.validation c.self.inside.metadata c.self.inside.format c.self.inside.format_annotation c.self.inside.format_assertion c.self.inside.content (map string_bytes c.self.inside.custom.items))) }

pub returns-in-Metadata : goal.returns-in-Metadata
returns-in-Metadata c = record { member = rw (c.in-Metadata.is, ← c.self.view_is) (sym (has_metadata c.self.inside.core c.self.inside.applicator c.self.inside.unevaluated c.self.inside.validation c.self.inside.metadata c.self.inside.format c.self.inside.format_annotation c.self.inside.format_assertion c.self.inside.content (map string_bytes c.self.inside.custom.items))) }

pub returns-in-Format : goal.returns-in-Format
returns-in-Format c = record { member = rw (c.in-Format.is, ← c.self.view_is) (sym (has_format c.self.inside.core c.self.inside.applicator c.self.inside.unevaluated c.self.inside.validation c.self.inside.metadata c.self.inside.format c.self.inside.format_annotation c.self.inside.format_assertion c.self.inside.content (map string_bytes c.self.inside.custom.items))) }

pub returns-in-FormatAnnotation : goal.returns-in-FormatAnnotation
returns-in-FormatAnnotation c = record { member = rw (c.in-FormatAnnotation.is, ← c.self.view_is) (sym (has_format_annotation c.self.inside.core c.self.inside.applicator c.self.inside.unevaluated c.self.inside.validation c.self.inside.metadata c.self.inside.format c.self.inside.format_annotation c.self.inside.format_assertion c.self.inside.content (map string_bytes c.self.inside.custom.items))) }

pub returns-in-FormatAssertion : goal.returns-in-FormatAssertion
returns-in-FormatAssertion c = record { member = rw (c.in-FormatAssertion.is, ← c.self.view_is) (sym (has_format_assertion c.self.inside.core c.self.inside.applicator c.self.inside.unevaluated c.self.inside.validation c.self.inside.metadata c.self.inside.format c.self.inside.format_annotation c.self.inside.format_assertion c.self.inside.content (map string_bytes c.self.inside.custom.items))) }

pub returns-in-Content : goal.returns-in-Content
returns-in-Content c = record { member = rw (c.in-Content.is, ← c.self.view_is) (sym (has_content c.self.inside.core c.self.inside.applicator c.self.inside.unevaluated c.self.inside.validation c.self.inside.metadata c.self.inside.format c.self.inside.format_annotation c.self.inside.format_assertion c.self.inside.content (map string_bytes c.self.inside.custom.items))) }

pub returns-in-Custom : goal.returns-in-Custom
returns-in-Custom c = record { member = rw (c.in-Custom.is, ← c.self.view_is, c.contains_text.ensures.found, c.deref.ensures.value) (sym (has_other c.self.inside.core c.self.inside.applicator c.self.inside.unevaluated c.self.inside.validation c.self.inside.metadata c.self.inside.format c.self.inside.format_annotation c.self.inside.format_assertion c.self.inside.content (map string_bytes c.self.inside.custom.items) (string_bytes c.in-Custom.uri))) }
