-- What a validator is built from: a schema, the URI that it is found under, the draft that is set
-- for it, the draft of schemas that do not name theirs (these are optional), and the documents that
-- its references may lead to, each under its URI. (Core 2020-12, 8.1.1, 8.2 and 9.1)
use Rattle.std.specs.Prelude.{List, None, Option, Some, [], codes, map, unwrap_or, ◌++◌, ◌∷◌, ◌≡◌}
use Rattle.serde_json.specs.Data.{Data}
use Rattle.serde_json.specs.View.{view}
use Rattle.serde_json.specs.declared.value.Value.{Value}
use Rattle.theory_definitions.specs.Drafts.{Draft, draft_2020_12}
use Rattle.theory_definitions.specs.Instance.{Text}
use Rattle.standard_resolver.specs.MetaVocabularies.{AreListed}
use Rattle.standard_resolver.specs.ResolverAnswers.{reading_in}
use Rattle.standard_resolver.specs.ResolverDocuments.{HeldDocuments, GivenDocument, HasCustom, HasDrafts, documents_of}
use Rattle.standard_subschemas.specs.SubschemaRules.{text_member}
use Rattle.standard_subschemas.specs.declared.rules.Rule.TheVariants.{Standard}
use Rattle.schema_validator.specs.Handed.{Options}

pub record SchemaSources : Type 0 where
  pub schema : Value
  pub uri : Option Text
  pub root_draft : Option Draft
  pub draft : Option Draft
  pub documents : List GivenDocument

-- the values of the schema and the documents, the schema's first
abbrev pub values_of : SchemaSources → List Data
values_of s = view s.schema ∷ map (λ d. view d.value) s.documents

-- the draft of schemas that do not name theirs: 2020-12 if none is set
abbrev pub default_draft_of : SchemaSources → Draft
default_draft_of s = unwrap_or s.draft draft_2020_12

-- the draft that the sources set for the root: the one that is set for it, or else the default one,
-- if the schema names none
abbrev pub set_draft : SchemaSources → Option Draft
set_draft s = elim s.root_draft [ Some draft ↦ Some draft | None ↦ elim (text_member (codes "$schema") (view s.schema)) [ Some t ↦ None | None ↦ s.draft ] ]

-- the option for the root's draft: the one that the sources set, and otherwise the given option
abbrev pub draft_option : SchemaSources → Option Draft → Option Draft
draft_option s o = elim (set_draft s) [ Some draft ↦ Some draft | None ↦ o ]

-- the URI that the schema is found under
abbrev pub uri_of : SchemaSources → Text
uri_of s = unwrap_or s.uri (codes "json-schema:///")

-- the options of a build, with the draft and URI of the sources
abbrev pub options_by : SchemaSources → Options → Options
options_by s options = record options { draft = draft_option s options.draft; base = Some (uri_of s) }

-- the resolver holds the schema and the documents, reads the schema in the draft that is set for it,
-- and requires no vocabularies but those of each draft; those that a supplied meta-schema lists are in
-- force in place of the draft's
pub record IsResolverOf (s : SchemaSources) (r : HeldDocuments) : Type 0 where
  pub rule : r.rule ≡ Standard
  pub uri : r.uri ≡ uri_of s
  pub document : r.document ≡ s.schema
  pub others : r.others ≡ s.documents
  pub root_draft : r.root_draft ≡ s.root_draft
  pub default_draft : r.default_draft ≡ default_draft_of s
  pub drafts : HasDrafts [] r.vocabularies
  pub listed : AreListed (reading_in r) (documents_of r) r.listed
  pub custom : HasCustom [] r.vocabularies

-- the sources with more documents
abbrev pub with_documents : SchemaSources → List GivenDocument → SchemaSources
with_documents s more = record s { documents = s.documents ++ more }
