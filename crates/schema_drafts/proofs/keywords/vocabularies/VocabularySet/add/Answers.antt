use Rattle.std.proofs.Common.{arith, sym, ◌∙◌}
use Rattle.std.specs.Prelude.{map, string_bytes, true, ◌≡◌}
use Rattle.theory_definitions.specs.VocabularySets.{custom_of, placed_text}
use Rattle.theory_definitions.proofs.RisingTexts.{placed_rises}
use Rattle.theory_definitions.proofs.VocabularyLists.{custom_of-listed, flags, listed-placed, listed-raised}
use Rattle.schema_drafts.proofs.keywords.vocabularies.VocabularySet.add.Goals as goal

pub returns-in-Core-clause-member : goal.returns-in-Core-clause-member
returns-in-Core-clause-member c = λ w. rw (c.in-Core.is, ← c.self.view_is) (listed-raised w 0 (flags c.self.inside.core c.self.inside.applicator c.self.inside.unevaluated c.self.inside.validation c.self.inside.metadata c.self.inside.format c.self.inside.format_annotation c.self.inside.format_assertion c.self.inside.content) (map string_bytes c.self.inside.custom.items) (omega arith) (omega arith))

pub returns-in-Core-clause-custom : goal.returns-in-Core-clause-custom
returns-in-Core-clause-custom c = rw (c.in-Core.is, ← c.self.view_is) (custom_of-listed (flags true c.self.inside.applicator c.self.inside.unevaluated c.self.inside.validation c.self.inside.metadata c.self.inside.format c.self.inside.format_annotation c.self.inside.format_assertion c.self.inside.content) (map string_bytes c.self.inside.custom.items) ∙ sym (custom_of-listed (flags c.self.inside.core c.self.inside.applicator c.self.inside.unevaluated c.self.inside.validation c.self.inside.metadata c.self.inside.format c.self.inside.format_annotation c.self.inside.format_assertion c.self.inside.content) (map string_bytes c.self.inside.custom.items)))

pub returns-in-Applicator-clause-member : goal.returns-in-Applicator-clause-member
returns-in-Applicator-clause-member c = λ w. rw (c.in-Applicator.is, ← c.self.view_is) (listed-raised w 1 (flags c.self.inside.core c.self.inside.applicator c.self.inside.unevaluated c.self.inside.validation c.self.inside.metadata c.self.inside.format c.self.inside.format_annotation c.self.inside.format_assertion c.self.inside.content) (map string_bytes c.self.inside.custom.items) (omega arith) (omega arith))

pub returns-in-Applicator-clause-custom : goal.returns-in-Applicator-clause-custom
returns-in-Applicator-clause-custom c = rw (c.in-Applicator.is, ← c.self.view_is) (custom_of-listed (flags c.self.inside.core true c.self.inside.unevaluated c.self.inside.validation c.self.inside.metadata c.self.inside.format c.self.inside.format_annotation c.self.inside.format_assertion c.self.inside.content) (map string_bytes c.self.inside.custom.items) ∙ sym (custom_of-listed (flags c.self.inside.core c.self.inside.applicator c.self.inside.unevaluated c.self.inside.validation c.self.inside.metadata c.self.inside.format c.self.inside.format_annotation c.self.inside.format_assertion c.self.inside.content) (map string_bytes c.self.inside.custom.items)))

pub returns-in-Unevaluated-clause-member : goal.returns-in-Unevaluated-clause-member
returns-in-Unevaluated-clause-member c = λ w. rw (c.in-Unevaluated.is, ← c.self.view_is) (listed-raised w 2 (flags c.self.inside.core c.self.inside.applicator c.self.inside.unevaluated c.self.inside.validation c.self.inside.metadata c.self.inside.format c.self.inside.format_annotation c.self.inside.format_assertion c.self.inside.content) (map string_bytes c.self.inside.custom.items) (omega arith) (omega arith))

pub returns-in-Unevaluated-clause-custom : goal.returns-in-Unevaluated-clause-custom
returns-in-Unevaluated-clause-custom c = rw (c.in-Unevaluated.is, ← c.self.view_is) (custom_of-listed (flags c.self.inside.core c.self.inside.applicator true c.self.inside.validation c.self.inside.metadata c.self.inside.format c.self.inside.format_annotation c.self.inside.format_assertion c.self.inside.content) (map string_bytes c.self.inside.custom.items) ∙ sym (custom_of-listed (flags c.self.inside.core c.self.inside.applicator c.self.inside.unevaluated c.self.inside.validation c.self.inside.metadata c.self.inside.format c.self.inside.format_annotation c.self.inside.format_assertion c.self.inside.content) (map string_bytes c.self.inside.custom.items)))

pub returns-in-Validation-clause-member : goal.returns-in-Validation-clause-member
returns-in-Validation-clause-member c = λ w. rw (c.in-Validation.is, ← c.self.view_is) (listed-raised w 3 (flags c.self.inside.core c.self.inside.applicator c.self.inside.unevaluated c.self.inside.validation c.self.inside.metadata c.self.inside.format c.self.inside.format_annotation c.self.inside.format_assertion c.self.inside.content) (map string_bytes c.self.inside.custom.items) (omega arith) (omega arith))

pub returns-in-Validation-clause-custom : goal.returns-in-Validation-clause-custom
returns-in-Validation-clause-custom c = rw (c.in-Validation.is, ← c.self.view_is) (custom_of-listed (flags c.self.inside.core c.self.inside.applicator c.self.inside.unevaluated true c.self.inside.metadata c.self.inside.format c.self.inside.format_annotation c.self.inside.format_assertion c.self.inside.content) (map string_bytes c.self.inside.custom.items) ∙ sym (custom_of-listed (flags c.self.inside.core c.self.inside.applicator c.self.inside.unevaluated c.self.inside.validation c.self.inside.metadata c.self.inside.format c.self.inside.format_annotation c.self.inside.format_assertion c.self.inside.content) (map string_bytes c.self.inside.custom.items)))

pub returns-in-Metadata-clause-member : goal.returns-in-Metadata-clause-member
returns-in-Metadata-clause-member c = λ w. rw (c.in-Metadata.is, ← c.self.view_is) (listed-raised w 4 (flags c.self.inside.core c.self.inside.applicator c.self.inside.unevaluated c.self.inside.validation c.self.inside.metadata c.self.inside.format c.self.inside.format_annotation c.self.inside.format_assertion c.self.inside.content) (map string_bytes c.self.inside.custom.items) (omega arith) (omega arith))

pub returns-in-Metadata-clause-custom : goal.returns-in-Metadata-clause-custom
returns-in-Metadata-clause-custom c = rw (c.in-Metadata.is, ← c.self.view_is) (custom_of-listed (flags c.self.inside.core c.self.inside.applicator c.self.inside.unevaluated c.self.inside.validation true c.self.inside.format c.self.inside.format_annotation c.self.inside.format_assertion c.self.inside.content) (map string_bytes c.self.inside.custom.items) ∙ sym (custom_of-listed (flags c.self.inside.core c.self.inside.applicator c.self.inside.unevaluated c.self.inside.validation c.self.inside.metadata c.self.inside.format c.self.inside.format_annotation c.self.inside.format_assertion c.self.inside.content) (map string_bytes c.self.inside.custom.items)))

pub returns-in-Format-clause-member : goal.returns-in-Format-clause-member
returns-in-Format-clause-member c = λ w. rw (c.in-Format.is, ← c.self.view_is) (listed-raised w 5 (flags c.self.inside.core c.self.inside.applicator c.self.inside.unevaluated c.self.inside.validation c.self.inside.metadata c.self.inside.format c.self.inside.format_annotation c.self.inside.format_assertion c.self.inside.content) (map string_bytes c.self.inside.custom.items) (omega arith) (omega arith))

pub returns-in-Format-clause-custom : goal.returns-in-Format-clause-custom
returns-in-Format-clause-custom c = rw (c.in-Format.is, ← c.self.view_is) (custom_of-listed (flags c.self.inside.core c.self.inside.applicator c.self.inside.unevaluated c.self.inside.validation c.self.inside.metadata true c.self.inside.format_annotation c.self.inside.format_assertion c.self.inside.content) (map string_bytes c.self.inside.custom.items) ∙ sym (custom_of-listed (flags c.self.inside.core c.self.inside.applicator c.self.inside.unevaluated c.self.inside.validation c.self.inside.metadata c.self.inside.format c.self.inside.format_annotation c.self.inside.format_assertion c.self.inside.content) (map string_bytes c.self.inside.custom.items)))

pub returns-in-FormatAnnotation-clause-member : goal.returns-in-FormatAnnotation-clause-member
returns-in-FormatAnnotation-clause-member c = λ w. rw (c.in-FormatAnnotation.is, ← c.self.view_is) (listed-raised w 6 (flags c.self.inside.core c.self.inside.applicator c.self.inside.unevaluated c.self.inside.validation c.self.inside.metadata c.self.inside.format c.self.inside.format_annotation c.self.inside.format_assertion c.self.inside.content) (map string_bytes c.self.inside.custom.items) (omega arith) (omega arith))

pub returns-in-FormatAnnotation-clause-custom : goal.returns-in-FormatAnnotation-clause-custom
returns-in-FormatAnnotation-clause-custom c = rw (c.in-FormatAnnotation.is, ← c.self.view_is) (custom_of-listed (flags c.self.inside.core c.self.inside.applicator c.self.inside.unevaluated c.self.inside.validation c.self.inside.metadata c.self.inside.format true c.self.inside.format_assertion c.self.inside.content) (map string_bytes c.self.inside.custom.items) ∙ sym (custom_of-listed (flags c.self.inside.core c.self.inside.applicator c.self.inside.unevaluated c.self.inside.validation c.self.inside.metadata c.self.inside.format c.self.inside.format_annotation c.self.inside.format_assertion c.self.inside.content) (map string_bytes c.self.inside.custom.items)))

pub returns-in-FormatAssertion-clause-member : goal.returns-in-FormatAssertion-clause-member
returns-in-FormatAssertion-clause-member c = λ w. rw (c.in-FormatAssertion.is, ← c.self.view_is) (listed-raised w 7 (flags c.self.inside.core c.self.inside.applicator c.self.inside.unevaluated c.self.inside.validation c.self.inside.metadata c.self.inside.format c.self.inside.format_annotation c.self.inside.format_assertion c.self.inside.content) (map string_bytes c.self.inside.custom.items) (omega arith) (omega arith))

pub returns-in-FormatAssertion-clause-custom : goal.returns-in-FormatAssertion-clause-custom
returns-in-FormatAssertion-clause-custom c = rw (c.in-FormatAssertion.is, ← c.self.view_is) (custom_of-listed (flags c.self.inside.core c.self.inside.applicator c.self.inside.unevaluated c.self.inside.validation c.self.inside.metadata c.self.inside.format c.self.inside.format_annotation true c.self.inside.content) (map string_bytes c.self.inside.custom.items) ∙ sym (custom_of-listed (flags c.self.inside.core c.self.inside.applicator c.self.inside.unevaluated c.self.inside.validation c.self.inside.metadata c.self.inside.format c.self.inside.format_annotation c.self.inside.format_assertion c.self.inside.content) (map string_bytes c.self.inside.custom.items)))

pub returns-in-Content-clause-member : goal.returns-in-Content-clause-member
returns-in-Content-clause-member c = λ w. rw (c.in-Content.is, ← c.self.view_is) (listed-raised w 8 (flags c.self.inside.core c.self.inside.applicator c.self.inside.unevaluated c.self.inside.validation c.self.inside.metadata c.self.inside.format c.self.inside.format_annotation c.self.inside.format_assertion c.self.inside.content) (map string_bytes c.self.inside.custom.items) (omega arith) (omega arith))

pub returns-in-Content-clause-custom : goal.returns-in-Content-clause-custom
returns-in-Content-clause-custom c = rw (c.in-Content.is, ← c.self.view_is) (custom_of-listed (flags c.self.inside.core c.self.inside.applicator c.self.inside.unevaluated c.self.inside.validation c.self.inside.metadata c.self.inside.format c.self.inside.format_annotation c.self.inside.format_assertion true) (map string_bytes c.self.inside.custom.items) ∙ sym (custom_of-listed (flags c.self.inside.core c.self.inside.applicator c.self.inside.unevaluated c.self.inside.validation c.self.inside.metadata c.self.inside.format c.self.inside.format_annotation c.self.inside.format_assertion c.self.inside.content) (map string_bytes c.self.inside.custom.items)))

pub returns-in_ok-place_text-in-Custom-clause-member : goal.returns-in_ok-place_text-in-Custom-clause-member
returns-in_ok-place_text-in-Custom-clause-member c = λ w.
    let texts : map string_bytes c.place_text.new.texts.items ≡ placed_text (string_bytes c.in-Custom.uri) (map string_bytes c.self.inside.custom.items) = c.in_ok-place_text-in-Custom.ensures.placed in
    rw (c.in-Custom.is, texts, ← c.self.view_is) (listed-placed w (flags c.self.inside.core c.self.inside.applicator c.self.inside.unevaluated c.self.inside.validation c.self.inside.metadata c.self.inside.format c.self.inside.format_annotation c.self.inside.format_assertion c.self.inside.content) (map string_bytes c.self.inside.custom.items) (string_bytes c.in-Custom.uri))

pub returns-in_ok-place_text-in-Custom-clause-custom : goal.returns-in_ok-place_text-in-Custom-clause-custom
returns-in_ok-place_text-in-Custom-clause-custom c =
    let texts : map string_bytes c.place_text.new.texts.items ≡ placed_text (string_bytes c.in-Custom.uri) (map string_bytes c.self.inside.custom.items) = c.in_ok-place_text-in-Custom.ensures.placed in
    let customs : custom_of c.args.self.now ≡ (map string_bytes c.self.inside.custom.items) = rw (← c.self.view_is) (custom_of-listed (flags c.self.inside.core c.self.inside.applicator c.self.inside.unevaluated c.self.inside.validation c.self.inside.metadata c.self.inside.format c.self.inside.format_annotation c.self.inside.format_assertion c.self.inside.content) (map string_bytes c.self.inside.custom.items)) in
    rw (c.in-Custom.is, customs) (custom_of-listed (flags c.self.inside.core c.self.inside.applicator c.self.inside.unevaluated c.self.inside.validation c.self.inside.metadata c.self.inside.format c.self.inside.format_annotation c.self.inside.format_assertion c.self.inside.content) (map string_bytes c.place_text.new.texts.items) ∙ texts)

pub invariant_of-self-in-Continue-1 : goal.invariant_of-self-in-Continue-1
invariant_of-self-in-Continue-1 c =
    let texts : map string_bytes c.place_text.new.texts.items ≡ placed_text (string_bytes c.in-Custom.uri) (map string_bytes c.self.inside.custom.items) = c.in_ok-place_text-in-Custom.ensures.placed in
    rw texts (placed_rises (string_bytes c.in-Custom.uri) (map string_bytes c.self.inside.custom.items) c.self.invariant)
