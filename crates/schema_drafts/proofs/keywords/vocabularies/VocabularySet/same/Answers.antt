use Rattle.std.proofs.Common.{sym, ◌∙◌}
use Rattle.std.specs.Cmp.Derive.Mapped.{pointwise-map}
use Rattle.std.specs.Cmp.Lexicographic.{pointwise}
use Rattle.std.specs.Prelude.{[], bytes_eq, false, map, string_bytes, true, ◌∷◌, ◌≡◌}
use Rattle.std.proofs.Math.Bool.{beq}
use Rattle.theory_definitions.specs.Drafts.{same_vocabularies}
use Rattle.theory_definitions.proofs.SameVocabularies.{same_listed, same_sets}
use Rattle.schema_drafts.proofs.keywords.vocabularies.VocabularySet.same.Goals as goal

pub returns-then-eq : goal.returns-then-eq
returns-then-eq c =
    let flags : pointwise beq (c.self.inside.core ∷ c.self.inside.applicator ∷ c.self.inside.unevaluated ∷ c.self.inside.validation ∷ c.self.inside.metadata ∷ c.self.inside.format ∷ c.self.inside.format_annotation ∷ c.self.inside.format_assertion ∷ c.self.inside.content ∷ []) (c.other.inside.core ∷ c.other.inside.applicator ∷ c.other.inside.unevaluated ∷ c.other.inside.validation ∷ c.other.inside.metadata ∷ c.other.inside.format ∷ c.other.inside.format_annotation ∷ c.other.inside.format_assertion ∷ c.other.inside.content ∷ []) ≡ true = sym c.eq.ensures ∙ c.if-eq.true in
    let uris : c.eq-then-eq.result ≡ pointwise bytes_eq (map string_bytes c.self.inside.custom.items) (map string_bytes c.other.inside.custom.items) = c.eq-then-eq.ensures ∙ sym (pointwise-map string_bytes bytes_eq c.self.inside.custom.items c.other.inside.custom.items) in
    let same : c.eq-then-eq.result ≡ same_vocabularies c.args.self.now c.args.other.now = rw (← c.self.view_is, ← c.other.view_is) (uris ∙ sym (same_listed c.self.inside.core c.self.inside.applicator c.self.inside.unevaluated c.self.inside.validation c.self.inside.metadata c.self.inside.format c.self.inside.format_annotation c.self.inside.format_assertion c.self.inside.content (map string_bytes c.self.inside.custom.items) c.other.inside.core c.other.inside.applicator c.other.inside.unevaluated c.other.inside.validation c.other.inside.metadata c.other.inside.format c.other.inside.format_annotation c.other.inside.format_assertion c.other.inside.content (map string_bytes c.other.inside.custom.items) ∙ rw flags)) in
    record { same = same; members = rw same (rw (← c.self.view_is, ← c.other.view_is) (same_sets c.self.inside.core c.self.inside.applicator c.self.inside.unevaluated c.self.inside.validation c.self.inside.metadata c.self.inside.format c.self.inside.format_annotation c.self.inside.format_assertion c.self.inside.content (map string_bytes c.self.inside.custom.items) c.other.inside.core c.other.inside.applicator c.other.inside.unevaluated c.other.inside.validation c.other.inside.metadata c.other.inside.format c.other.inside.format_annotation c.other.inside.format_assertion c.other.inside.content (map string_bytes c.other.inside.custom.items) c.self.invariant c.other.invariant)) }

pub returns-else-eq : goal.returns-else-eq
returns-else-eq c =
    let flags : pointwise beq (c.self.inside.core ∷ c.self.inside.applicator ∷ c.self.inside.unevaluated ∷ c.self.inside.validation ∷ c.self.inside.metadata ∷ c.self.inside.format ∷ c.self.inside.format_annotation ∷ c.self.inside.format_assertion ∷ c.self.inside.content ∷ []) (c.other.inside.core ∷ c.other.inside.applicator ∷ c.other.inside.unevaluated ∷ c.other.inside.validation ∷ c.other.inside.metadata ∷ c.other.inside.format ∷ c.other.inside.format_annotation ∷ c.other.inside.format_assertion ∷ c.other.inside.content ∷ []) ≡ false = sym c.eq.ensures ∙ c.if-eq.false in
    let same : c.eq.result ≡ same_vocabularies c.args.self.now c.args.other.now = rw (← c.self.view_is, ← c.other.view_is) (c.if-eq.false ∙ sym (same_listed c.self.inside.core c.self.inside.applicator c.self.inside.unevaluated c.self.inside.validation c.self.inside.metadata c.self.inside.format c.self.inside.format_annotation c.self.inside.format_assertion c.self.inside.content (map string_bytes c.self.inside.custom.items) c.other.inside.core c.other.inside.applicator c.other.inside.unevaluated c.other.inside.validation c.other.inside.metadata c.other.inside.format c.other.inside.format_annotation c.other.inside.format_assertion c.other.inside.content (map string_bytes c.other.inside.custom.items) ∙ rw flags)) in
    record { same = same; members = rw same (rw (← c.self.view_is, ← c.other.view_is) (same_sets c.self.inside.core c.self.inside.applicator c.self.inside.unevaluated c.self.inside.validation c.self.inside.metadata c.self.inside.format c.self.inside.format_annotation c.self.inside.format_assertion c.self.inside.content (map string_bytes c.self.inside.custom.items) c.other.inside.core c.other.inside.applicator c.other.inside.unevaluated c.other.inside.validation c.other.inside.metadata c.other.inside.format c.other.inside.format_annotation c.other.inside.format_assertion c.other.inside.content (map string_bytes c.other.inside.custom.items) c.self.invariant c.other.invariant)) }
