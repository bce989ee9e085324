-- The meta-schemas as they are written: each a text, under its URI. A draft has a meta-schema, and
-- from 2019-09 on one for each of its vocabularies. That the texts say what the standard's say is
-- tested. (Core 2020-12, 8.1.1 and 8.1.2; Core 2019-09, 8.1; drafts 4, 6 and 7, `$schema`)
use Rattle.std.specs.Prelude.{List, [], codes, ◌∷◌}
use Rattle.theory_definitions.specs.Drafts.{Draft, draft_2019_09, draft_2020_12, draft_4, draft_6, draft_7, draft_unknown}
use Rattle.theory_definitions.specs.Instance.{Text}
use Rattle.meta_schemas.specs.MetaUris.{uri_of}
use Rattle.meta_schemas.specs.declared.MetaSchema.{MetaSchema}
use Rattle.meta_schemas.specs.declared.draft4.TheConstants as draft4
use Rattle.meta_schemas.specs.declared.draft6.TheConstants as draft6
use Rattle.meta_schemas.specs.declared.draft7.TheConstants as draft7
use Rattle.meta_schemas.specs.declared.draft2019_09.TheConstants as draft2019_09
use Rattle.meta_schemas.specs.declared.draft2020_12.TheConstants as draft2020_12

-- a text and its URI
pub record Written : Type 0 where
  pub uri : Text
  pub text : Text

abbrev pub written : MetaSchema → Written
written m = record { uri = m.uri.now; text = m.text.now }

-- the text of a draft's meta-schema; an unknown draft counts as 2020-12
abbrev pub text_of : Draft → Text
text_of draft_4 = draft4.TEXT.now
text_of draft_6 = draft6.TEXT.now
text_of draft_7 = draft7.TEXT.now
text_of draft_2019_09 = draft2019_09.SCHEMA.now
text_of draft_2020_12 = draft2020_12.SCHEMA.now
text_of draft_unknown = draft2020_12.SCHEMA.now

-- a draft's meta-schema
abbrev pub schema_text : Draft → Written
schema_text draft = record { uri = uri_of draft; text = text_of draft }

-- the meta-schemas of the vocabularies of 2019-09
abbrev pub texts_of_2019_09 : List Written
texts_of_2019_09 =
    record { uri = codes "https://json-schema.org/draft/2019-09/meta/core"; text = draft2019_09.CORE.now } ∷
    record { uri = codes "https://json-schema.org/draft/2019-09/meta/applicator"; text = draft2019_09.APPLICATOR.now } ∷
    record { uri = codes "https://json-schema.org/draft/2019-09/meta/validation"; text = draft2019_09.VALIDATION.now } ∷
    record { uri = codes "https://json-schema.org/draft/2019-09/meta/meta-data"; text = draft2019_09.META_DATA.now } ∷
    record { uri = codes "https://json-schema.org/draft/2019-09/meta/format"; text = draft2019_09.FORMAT.now } ∷
    record { uri = codes "https://json-schema.org/draft/2019-09/meta/content"; text = draft2019_09.CONTENT.now } ∷
    []

-- the meta-schemas of the vocabularies of 2020-12
abbrev pub texts_of_2020_12 : List Written
texts_of_2020_12 =
    record { uri = codes "https://json-schema.org/draft/2020-12/meta/core"; text = draft2020_12.CORE.now } ∷
    record { uri = codes "https://json-schema.org/draft/2020-12/meta/applicator"; text = draft2020_12.APPLICATOR.now } ∷
    record { uri = codes "https://json-schema.org/draft/2020-12/meta/unevaluated"; text = draft2020_12.UNEVALUATED.now } ∷
    record { uri = codes "https://json-schema.org/draft/2020-12/meta/validation"; text = draft2020_12.VALIDATION.now } ∷
    record { uri = codes "https://json-schema.org/draft/2020-12/meta/meta-data"; text = draft2020_12.META_DATA.now } ∷
    record { uri = codes "https://json-schema.org/draft/2020-12/meta/format-annotation"; text = draft2020_12.FORMAT_ANNOTATION.now } ∷
    record { uri = codes "https://json-schema.org/draft/2020-12/meta/format-assertion"; text = draft2020_12.FORMAT_ASSERTION.now } ∷
    record { uri = codes "https://json-schema.org/draft/2020-12/meta/content"; text = draft2020_12.CONTENT.now } ∷
    []

-- the meta-schemas of a draft's vocabularies
abbrev pub vocabulary_texts : Draft → List Written
vocabulary_texts draft_4 = []
vocabulary_texts draft_6 = []
vocabulary_texts draft_7 = []
vocabulary_texts draft_2019_09 = texts_of_2019_09
vocabulary_texts draft_2020_12 = texts_of_2020_12
vocabulary_texts draft_unknown = texts_of_2020_12

-- a draft's meta-schema, and then those of its vocabularies
abbrev pub texts_of : Draft → List Written
texts_of draft = schema_text draft ∷ vocabulary_texts draft
