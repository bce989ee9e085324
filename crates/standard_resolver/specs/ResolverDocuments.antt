-- The contents of a resolver: documents, each under a URI, the rule for reading them, their default
-- draft, and the vocabularies of each draft. The first document is the root. (Core 2020-12,
-- sections 8.2.1 and 9.1.1)
use Rattle.std.specs.Prelude.{List, None, Option, Some, String, map, slice_get, ◌≡◌, ◌++◌, ◌∷◌}
use Rattle.std.specs.declared.alloc.Global.{Global}
use Rattle.serde_json.specs.Data.{Data, object}
use Rattle.serde_json.specs.View.{members_view, view}
use Rattle.serde_json.specs.declared.value.Value.{Value}
use Rattle.theory_definitions.specs.Instance.{Place, Text, subject_at}
use Rattle.theory_definitions.specs.Drafts.{Draft, SchemaPlace, Vocabularies, Vocabulary, at_path, draft_2019_09, draft_2020_12, draft_4, draft_6}
use Rattle.theory_definitions.specs.Drafts.{draft_7, draft_unknown, has_vocabulary}
use Rattle.theory_definitions.specs.VocabularySets.{custom_of}
use Rattle.standard_resolver.specs.declared.vocabularies.DraftVocabularies.{DraftVocabularies}
use Rattle.standard_subschemas.specs.declared.rules.Rule.{Rule}
use Rattle.standard_subschemas.specs.SubschemaRules.{data_of, draft_vocabularies}

-- the vocabularies in force in a draft; an unknown draft counts as 2020-12
abbrev pub vocabularies_in : Draft → DraftVocabularies → Vocabularies
vocabularies_in draft_4 sets = sets.early
vocabularies_in draft_6 sets = sets.early
vocabularies_in draft_7 sets = sets.early
vocabularies_in draft_2019_09 sets = sets.of_2019_09
vocabularies_in draft_2020_12 sets = sets.late
vocabularies_in draft_unknown sets = sets.late

-- each draft has its own vocabularies and the required ones, and no others
abbrev pub HasDrafts : Vocabularies → DraftVocabularies → Type 0
HasDrafts required sets = (d : Draft) (v : Vocabulary) → has_vocabulary (vocabularies_in d sets) v
    ≡ has_vocabulary (draft_vocabularies d ++ required) v

-- each draft has the custom vocabularies in the order of the required ones
abbrev pub HasCustom : Vocabularies → DraftVocabularies → Type 0
HasCustom required sets = (d : Draft) → custom_of (vocabularies_in d sets) ≡ custom_of required

-- a document and its URI, as data
pub record Document : Type 0 where
  pub uri : Text
  pub value : Data

-- a document and its URI, as the caller supplies them
pub record GivenDocument : Type 0 where
  pub uri : Text
  pub value : Value

-- The contents of a resolver. `root_draft` is the draft of the root, if it is given. `listed` has, for
-- each document, what its `$vocabulary` puts in force if it is a meta-schema; by the narrow rule it
-- is empty.
pub record HeldDocuments : Type 0 where
  pub rule : Rule
  pub uri : Text
  pub document : Value
  pub others : List GivenDocument
  pub root_draft : Option Draft
  pub default_draft : Draft
  pub vocabularies : DraftVocabularies
  pub listed : List (Option Vocabularies)

abbrev pub document_of : GivenDocument → Document
document_of d = record { uri = d.uri; value = view d.value }

-- the documents, the root first
abbrev pub documents_from : Text → Value → List GivenDocument → List Document
documents_from uri root others = record { uri = uri; value = view root } ∷ map document_of others

abbrev pub documents_of : HeldDocuments → List Document
documents_of r = documents_from r.uri r.document r.others

-- the value at a path of a document, if there is one
abbrev pub value_of : Option Document → SchemaPlace → Option Data
value_of None p = None
value_of (Some d) p = data_of (subject_at d.value p.path)

-- the value at a place; documents are numbered from 0
abbrev pub value_in : List Document → SchemaPlace → Option Data
value_in documents p = value_of (slice_get documents p.document) p

-- if a place lies at a path below an object with these members, the value is the one at that place
abbrev pub StandsInside : List Document → List (String Global × Value) → Place → SchemaPlace → Option Data → Type 0
StandsInside documents members path place value = (outer : SchemaPlace) → place ≡ at_path outer path
    → value_in documents outer ≡ Some (object (members_view members)) → value ≡ value_in documents place
