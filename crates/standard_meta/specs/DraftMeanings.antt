-- The meaning of the check of a draft: it is a validator of what the text of the draft's
-- meta-schema reads as, and it means this document plainly. (Core 2020-12, 8.1)
use Rattle.std.specs.Prelude.{None, [], false, ◌≡◌}
use Rattle.serde_json.specs.Data.{Data}
use Rattle.serde_json.specs.View.{view}
use Rattle.theory_definitions.specs.Drafts.{Draft}
use Rattle.theory_definitions.specs.Keywords.{Answer}
use Rattle.schema_traits.specs.declared.keyword.Validate.{Ghosts as KeywordMembers}
use Rattle.schema_traits.specs.declared.matcher.Matcher.{Ghosts as MatcherMembers}
use Rattle.schema_traits.specs.declared.resolver.Resolver.{Ghosts as ResolverMembers}
use Rattle.schema_traits.specs.declared.table.KeywordTable.{Ghosts as TableMembers}
use Rattle.pattern_matcher.specs.PatternMatching.{finishes_each, pattern_matcher}
use Rattle.pattern_matcher.specs.declared.treatment.Treatment.{Treatment}
use Rattle.pattern_matcher.specs.declared.treatment.Unreadable.TheVariants.{MatchesNothing}
use Rattle.standard_resolver.specs.MetaVocabularies.{AreListed}
use Rattle.standard_resolver.specs.ResolverAnswers.{reading_in}
use Rattle.standard_resolver.specs.ResolverDocuments.{HeldDocuments, HasCustom, HasDrafts, documents_of}
use Rattle.standard_subschemas.specs.declared.rules.Rule.TheVariants.{Narrow}
use Rattle.schema_validator.specs.Called.{IsCompiledFrom, MeansPlainly}
use Rattle.schema_validator.specs.Handed.{Handed, Options, default_options, handed}
use Rattle.schema_compiled.specs.Program.{Program}
use Rattle.standard_keywords.specs.declared.patterns.UnreadablePatterns.TheVariants as unreadable
use Rattle.standard_keywords.specs.declared.table.StandardTable.{StandardTable}
use Rattle.meta_schemas.specs.MetaTexts.{schema_text, vocabulary_texts}
use Rattle.standard_meta.specs.MetaDocuments.{AreRead, read_of, reading_of}

-- the meaning of matchers of regular expressions
abbrev pub regexes : MatcherMembers Treatment
regexes = record { matching = λ m. pattern_matcher m; finishing = λ m. finishes_each m }

-- the parts of a build other than the options: a resolver, the table that refuses unreadable
-- patterns, and a matcher
abbrev pub handed_by : {State S C Maker Run K : Type 0} → ResolverMembers HeldDocuments State S → TableMembers StandardTable C Maker Run K → KeywordMembers C Run K
    → HeldDocuments → Treatment → Handed S K (Run × Answer) C Treatment
handed_by resolvers tables keywords resolver matcher = handed resolvers tables keywords regexes resolver (record { unreadable = unreadable.Refused }) matcher

-- the matcher of meta-schemas: it finishes every match
abbrev pub of_meta_schemas : Treatment
of_meta_schemas = record { unreadable = MatchesNothing; limit = None }

-- the options of a build of a meta-schema, which is not itself checked
abbrev pub unchecked : Options
unchecked = record default_options { checks = false }

module _ {State S C Maker Run K : Type 0} (resolvers : ResolverMembers HeldDocuments State S) (tables : TableMembers StandardTable C Maker Run K)
    (keywords : KeywordMembers C Run K) where
  -- the validator was compiled from a schema, by a resolver and a matcher, and means the schema
  -- plainly
  pub record IsCompiledOf (resolver : HeldDocuments) (matcher : Treatment) (schema : Data) (p : Program C Treatment) : Type 0 where
    pub means : MeansPlainly (handed_by resolvers tables keywords resolver matcher) unchecked schema p
    pub program : IsCompiledFrom (handed_by resolvers tables keywords resolver matcher) unchecked schema unchecked.nested p

  -- the validator was compiled from what the text of a draft's meta-schema reads as, and means it
  -- plainly; references lead to what the texts of its vocabularies read as, and the draft's own
  -- vocabularies are in force
  pub record MeansDraft (draft : Draft) (p : Program C Treatment) : Type 0 where
    pub resolver : HeldDocuments
    pub rule : resolver.rule ≡ Narrow
    pub document : read_of (record { uri = resolver.uri; value = resolver.document }) ≡ reading_of (schema_text draft)
    pub others : AreRead (vocabulary_texts draft) resolver.others
    pub root_draft : resolver.root_draft ≡ None
    pub default_draft : resolver.default_draft ≡ draft
    pub drafts : HasDrafts [] resolver.vocabularies
    pub listed : AreListed (reading_in resolver) (documents_of resolver) resolver.listed
    pub custom : HasCustom [] resolver.vocabularies
    pub compiled : IsCompiledOf resolver of_meta_schemas (view resolver.document) p
