-- Drafts, which are editions of the standard; vocabularies, which are sets of keywords that a
-- meta-schema lists; and places in schema documents. (Core 2020-12, 8.1.1 and 8.1.2)
use Rattle.std.specs.List.{list_any}
use Rattle.std.specs.Prelude.{Bool, List, [], bytes_eq, false, true, ℕ, ◌&&◌, ◌++◌, ◌==◌, ◌∷◌}
use Rattle.theory_definitions.specs.Instance.{Place, Text, same_place}

-- The drafts that an engine supports, and one for a schema of no known draft.
pub data Draft : Type 0 where
  draft_4 draft_6 draft_7 draft_2019_09 draft_2020_12 draft_unknown : Draft

-- The vocabularies of the standard's meta-schemas; any other is named by its URI.
pub data Vocabulary : Type 0 where
  core_vocabulary applicator_vocabulary unevaluated_vocabulary validation_vocabulary metadata_vocabulary format_vocabulary format_annotation_vocabulary format_assertion_vocabulary content_vocabulary : Vocabulary
  custom_vocabulary : Text → Vocabulary

-- A set of vocabularies, as a list.
abbrev pub Vocabularies : Type 0
Vocabularies = List Vocabulary

-- The number of a document and a path in it.
pub record SchemaPlace : Type 0 where
  pub document : ℕ
  pub path : Place

-- The same draft.
abbrev pub same_draft : Draft → Draft → Bool
same_draft draft_4 draft_4 = true
same_draft draft_6 draft_6 = true
same_draft draft_7 draft_7 = true
same_draft draft_2019_09 draft_2019_09 = true
same_draft draft_2020_12 draft_2020_12 = true
same_draft draft_unknown draft_unknown = true
same_draft _ _ = false

-- Drafts 4 to 7, in which `$ref` replaces the keywords beside it.
abbrev pub ref_stands_alone : Draft → Bool
ref_stands_alone draft_4 = true
ref_stands_alone draft_6 = true
ref_stands_alone draft_7 = true
ref_stands_alone _ = false

-- The same place in the same document.
abbrev pub same_schema_place : SchemaPlace → SchemaPlace → Bool
same_schema_place a b = (a.document == b.document) && same_place a.path b.path

-- The same vocabulary.
abbrev pub same_vocabulary : Vocabulary → Vocabulary → Bool
same_vocabulary core_vocabulary core_vocabulary = true
same_vocabulary applicator_vocabulary applicator_vocabulary = true
same_vocabulary unevaluated_vocabulary unevaluated_vocabulary = true
same_vocabulary validation_vocabulary validation_vocabulary = true
same_vocabulary metadata_vocabulary metadata_vocabulary = true
same_vocabulary format_vocabulary format_vocabulary = true
same_vocabulary format_annotation_vocabulary format_annotation_vocabulary = true
same_vocabulary format_assertion_vocabulary format_assertion_vocabulary = true
same_vocabulary content_vocabulary content_vocabulary = true
same_vocabulary (custom_vocabulary a) (custom_vocabulary b) = bytes_eq a b
same_vocabulary _ _ = false

-- The same vocabularies in the same order.
abbrev pub same_vocabularies : Vocabularies → Vocabularies → Bool
same_vocabularies [] [] = true
same_vocabularies (a ∷ as') (b ∷ bs) = same_vocabulary a b && same_vocabularies as' bs
same_vocabularies _ _ = false

-- The vocabulary is one of these.
abbrev pub has_vocabulary : Vocabularies → Vocabulary → Bool
has_vocabulary vocabularies v = list_any (same_vocabulary v) vocabularies

-- The place at a path below another place.
abbrev pub at_path : SchemaPlace → Place → SchemaPlace
at_path p path = record { document = p.document; path = p.path ++ path }
