use Rattle.std.specs.Prelude.{map, string_bytes, ◌≡◌}
use Rattle.schema_drafts.proofs.ClonedTexts.{cloned_texts}
use Rattle.schema_drafts.proofs.keywords.vocabularies.VocabularySetClone.clone.Goals as goal

pub returns : goal.returns
returns c = let texts : map string_bytes c.in_ok-clone.field-0.items ≡ map string_bytes c.self.inside.custom.items = cloned_texts c.self.inside.custom.items c.in_ok-clone.field-0.items c.in_ok-clone.ensures.cases.0 in
    record { cases = rw texts c.self.view_is }

pub invariant_of-result : goal.invariant_of-result
invariant_of-result c = let texts : map string_bytes c.in_ok-clone.field-0.items ≡ map string_bytes c.self.inside.custom.items = cloned_texts c.self.inside.custom.items c.in_ok-clone.field-0.items c.in_ok-clone.ensures.cases.0 in
    rw texts c.self.invariant
