-- What a build promises of its validator: the clauses of `ValidationOptions::build` in one record,
-- over a resolver and a matcher; and then over sources, with a resolver that holds their documents
-- and the matcher of their patterns. The table is the standard's. (Core 2020-12, 8.2)
use Rattle.std.specs.Prelude.{List, [], ◌≡◌, ◌⊎◌}
use Rattle.serde_json.specs.Data.{Data}
use Rattle.serde_json.specs.View.{view}
use Rattle.serde_json.specs.declared.value.Value.{Value}
use Rattle.theory_definitions.specs.Keywords.{Answer}
use Rattle.schema_traits.specs.declared.keyword.Validate.{Ghosts as KeywordMembers}
use Rattle.schema_traits.specs.declared.resolver.Resolver.{Ghosts as ResolverMembers}
use Rattle.schema_traits.specs.declared.table.KeywordTable.{Ghosts as TableMembers}
use Rattle.pattern_matcher.specs.PatternMatching.{readable_only}
use Rattle.pattern_matcher.specs.SchemaPatterns.{patterns_of}
use Rattle.pattern_matcher.specs.declared.treatment.Treatment.{Treatment}
use Rattle.schema_keys.specs.Checking.{MetaChecks}
use Rattle.schema_keys.specs.declared.error.BuildError as engine
use Rattle.schema_keys.specs.declared.error.BuildError.TheVariants as memory
use Rattle.schema_validator.specs.BuildResults as results
use Rattle.schema_validator.specs.Handed.{Handed, Options}
use Rattle.schema_compiled.specs.Program.{Program}
use Rattle.standard_resolver.specs.ResolverDocuments.{HeldDocuments}
use Rattle.standard_keywords.specs.declared.table.StandardTable.{StandardTable}
use Rattle.standard_resolver.specs.ResolverDocuments.{GivenDocument}
use Rattle.meta_checker.specs.DraftChecks.{DraftPrograms, EachChecks}
use Rattle.standard_meta.specs.DraftMeanings.{MeansDraft, handed_by}
use Rattle.standard_meta.specs.MetaDocuments.{AreRead, known_drafts, texts_of_each}
use Rattle.jsonschema.specs.BuildOptions.{BuildOptions, sources_of}
use Rattle.jsonschema.specs.Sources.{IsResolverOf, SchemaSources, options_by, values_of, with_documents}
use Rattle.jsonschema.specs.declared.error.BuildError.{BuildError}
use Rattle.jsonschema.specs.declared.error.BuildError.TheVariants.{MetaSchemaRefused, MetaSchemaUnfit, MetaSchemas, OutOfMemory, Refused}

-- the matcher of the sources' patterns; it leaves a match unfinished if it takes too many steps,
-- which needs a back reference
abbrev pub matcher_of : SchemaSources → Treatment
matcher_of s = readable_only (patterns_of (values_of s))

module _ {State S C Maker Run K : Type 0} (resolvers : ResolverMembers HeldDocuments State S) (tables : TableMembers StandardTable C Maker Run K)
    (keywords : KeywordMembers C Run K) where
  -- the parts of a build with this resolver and this matcher
  abbrev pub parts_by : HeldDocuments → Treatment → Handed S K (Run × Answer) C Treatment
  parts_by r m = handed_by resolvers tables keywords r m

  module _ (r : HeldDocuments) (m : Treatment) (refuses : MetaChecks) (options : Options) (schema : Data) where
    -- the program is that of a validator built from a schema that the resolver holds
    pub record IsBuilt (p : Program C Treatment) : Type 0 where
      pub built : results.IsBuilt (parts_by r m) refuses options schema options.nested p

    -- the error names a cause that holds, and the first one if there are several
    pub record IsRefused (e : engine.BuildError) : Type 0 where
      pub refused : results.IsRefused (parts_by r m) refuses options schema e

  module _ (refuses : MetaChecks) (options : Options) (s : SchemaSources) where
    -- the validator is built from the schema of the sources, by a resolver that holds their
    -- documents, with their draft and URI among the options
    pub record IsBuiltOf (p : Program C Treatment) : Type 0 where
      pub resolver : HeldDocuments
      pub resolves : IsResolverOf s resolver
      pub built : IsBuilt resolver (matcher_of s) refuses (options_by s options) (view s.schema) p

    -- the error refuses such a build
    pub record IsRefusedOf (e : engine.BuildError) : Type 0 where
      pub resolver : HeldDocuments
      pub resolves : IsResolverOf s resolver
      pub refused : IsRefused resolver (matcher_of s) refuses (options_by s options) (view s.schema) e

-- the documents are the standard's meta-schemas, or there are none
abbrev pub AreStandard : List GivenDocument → Type 0
AreStandard documents = (documents ≡ []) ⊎ AreRead (texts_of_each known_drafts) documents

module _ {State S C Maker Run K : Type 0} (resolvers : ResolverMembers HeldDocuments State S) (tables : TableMembers StandardTable C Maker Run K)
    (keywords : KeywordMembers C Run K) where
  -- each meta-schema that is compiled is that of its draft
  abbrev pub EachMeans : DraftPrograms C Treatment → Type 0
  EachMeans ps = EachChecks (MeansDraft resolvers tables keywords) ps

  module _ (refuses : MetaChecks) (o : BuildOptions) (schema : Value) where
    -- the validator is built from the schema by these options; behind their documents stand the
    -- standard's meta-schemas, which may be left out if no text mentions them
    pub record IsBuiltFrom (p : Program C Treatment) : Type 0 where
      pub standard : List GivenDocument
      pub are_standard : AreStandard standard
      pub built : IsBuiltOf resolvers tables keywords refuses o.engine (with_documents (sources_of o schema) standard) p

    -- the engine's error refuses such a build
    pub record IsRefusedFrom (e : engine.BuildError) : Type 0 where
      pub standard : List GivenDocument
      pub are_standard : AreStandard standard
      pub refused : (e ≡ memory.OutOfMemory) ⊎ IsRefusedOf resolvers tables keywords refuses o.engine (with_documents (sources_of o schema) standard) e

    -- an error that refuses the schema names the engine's; the others say that the check could not
    -- be made, or that memory was refused; no supplied meta-schema is to blame
    abbrev pub RefusesFrom : BuildError → Type 0
    RefusesFrom (Refused e) = IsRefusedFrom e
    RefusesFrom (MetaSchemaRefused uri e) = ⊥
    RefusesFrom (MetaSchemaUnfit uri) = ⊥
    RefusesFrom (MetaSchemas e) = Unit {0}
    RefusesFrom OutOfMemory = Unit {0}
