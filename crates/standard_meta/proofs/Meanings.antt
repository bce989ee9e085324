-- The validator of a meta-schema, by the parts and options of its build.
use Rattle.std.proofs.Common.{Err, IfOk, List, None, Ok, Result, [], ap, map, subst, sym, ◌∙◌, ◌≡◌}
use Rattle.serde_json.specs.Data.{Data}
use Rattle.serde_json.specs.View.{view}
use Rattle.theory_definitions.specs.Drafts.{Draft}
use Rattle.theory_definitions.specs.Keywords.{Answer}
use Rattle.schema_traits.specs.declared.keyword.Validate.{Ghosts as KeywordMembers}
use Rattle.schema_traits.specs.declared.resolver.Resolver.{Ghosts as ResolverMembers}
use Rattle.schema_traits.specs.declared.table.KeywordTable.{Ghosts as TableMembers}
use Rattle.pattern_matcher.specs.declared.treatment.Treatment.{Treatment}
use Rattle.schema_keys.specs.Checking.{MetaChecks}
use Rattle.schema_validator.specs.BuildResults.{IsBuilt}
use Rattle.schema_validator.specs.Called.{IsCompiledFrom, MeansPlainly}
use Rattle.schema_validator.specs.Handed.{Handed, Options, handed}
use Rattle.schema_compiled.specs.Program.{Program}
use Rattle.standard_resolver.specs.MetaVocabularies.{AreListed}
use Rattle.standard_resolver.specs.ResolverAnswers.{reading_in}
use Rattle.standard_resolver.specs.ResolverDocuments.{GivenDocument, HasCustom, HasDrafts, HeldDocuments, documents_of}
use Rattle.standard_subschemas.specs.declared.rules.Rule.TheVariants.{Narrow}
use Rattle.standard_keywords.specs.declared.patterns.UnreadablePatterns.TheVariants as unreadable
use Rattle.standard_keywords.specs.declared.table.StandardTable.{StandardTable}
use Rattle.meta_schemas.specs.MetaTexts.{schema_text, vocabulary_texts}
use Rattle.standard_meta.specs.DraftMeanings.{IsCompiledOf, MeansDraft, handed_by, of_meta_schemas, regexes, unchecked}
use Rattle.standard_meta.specs.MetaDocuments.{AreRead, read_of, reading_of}

module _ {State S C Maker Run K : Type 0} (resolvers : ResolverMembers HeldDocuments State S) (tables : TableMembers StandardTable C Maker Run K)
    (keywords : KeywordMembers C Run K) (r : HeldDocuments) (m : Treatment) (table : StandardTable) (options : Options) (schema : Data)
  where
    -- the parts of a build with a table
    abbrev parts : StandardTable → Handed S K (Run × Answer) C Treatment
    parts t = handed resolvers tables keywords regexes r t m

    -- the table refuses unreadable patterns
    same_parts : table.unreadable ≡ unreadable.Refused → parts table ≡ handed_by resolvers tables keywords r m
    same_parts refuses = ap (λ u. parts (record { unreadable = u })) refuses

    pub compiled_by : {E : Type 0} (x : Result (Program C Treatment) E) → table.unreadable ≡ unreadable.Refused → options ≡ unchecked
        → (checks : MetaChecks) → IfOk x (λ p. IsBuilt (parts table) checks options schema options.nested p)
        → IfOk x (λ p. IsCompiledOf resolvers tables keywords r m schema p)
    compiled_by (Ok p) refuses off checks built = record {
      means = subst (λ o. MeansPlainly (handed_by resolvers tables keywords r m) o schema p) off
          (subst (λ h. MeansPlainly h options schema p) (same_parts refuses) built.means);
      program = subst (λ o. IsCompiledFrom (handed_by resolvers tables keywords r m) o schema o.nested p) off
          (subst (λ h. IsCompiledFrom h options schema options.nested p) (same_parts refuses) built.program);
    }
    compiled_by (Err e) refuses off checks built = tt

module _ {State S C Maker Run K : Type 0} (resolvers : ResolverMembers HeldDocuments State S) (tables : TableMembers StandardTable C Maker Run K)
    (keywords : KeywordMembers C Run K) (draft : Draft) (r : HeldDocuments) (m : Treatment) (root : GivenDocument) (others : List GivenDocument) where
  -- a meta-schema that was read and compiled by this resolver and this matcher
  pub means_draft : (v p : Program C Treatment) → r.rule ≡ Narrow → r.uri ≡ root.uri → r.document ≡ root.value → r.others ≡ others
      → r.root_draft ≡ None → r.default_draft ≡ draft → HasDrafts [] r.vocabularies → AreListed (reading_in r) (documents_of r) r.listed
      → HasCustom [] r.vocabularies → m ≡ of_meta_schemas
      → IsCompiledOf resolvers tables keywords r m (view root.value) v → p ≡ v
      → read_of root ≡ reading_of (schema_text draft) → AreRead (vocabulary_texts draft) others
      → MeansDraft resolvers tables keywords draft p
  means_draft v p rule same_uri same_document same_others root_draft default drafts listed custom matcher compiled same root_read others_read = record {
    resolver = r;
    rule = rule;
    document = ap (λ u. read_of (record { uri = u; value = r.document })) same_uri
        ∙ ap (λ x. read_of (record { uri = root.uri; value = x })) same_document ∙ root_read;
    others = ap (map read_of) same_others ∙ others_read;
    root_draft = root_draft;
    default_draft = default;
    drafts = drafts;
    listed = listed;
    custom = custom;
    compiled = subst (λ x. IsCompiledOf resolvers tables keywords r of_meta_schemas (view x) p) (sym same_document)
        (subst (λ t. IsCompiledOf resolvers tables keywords r t (view root.value) p) matcher
        (subst (λ q. IsCompiledOf resolvers tables keywords r m (view root.value) q) (sym same) compiled));
  }
