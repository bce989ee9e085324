-- What a build by options promises, together with the check of the schema: by the meta-schemas of the
-- standard, and by the one that it names among the documents. That one is itself checked by the one
-- that it names, and so on up to the standard's. (Core 2020-12, 8.1.1)
use Rattle.std.specs.Prelude.{None, Some, string_bytes, true, ◌≡◌}
use Rattle.serde_json.specs.View.{view}
use Rattle.serde_json.specs.declared.value.Value.{Value}
use Rattle.theory_definitions.specs.Instance.{Text}
use Rattle.schema_traits.specs.declared.keyword.Validate.{Ghosts as KeywordMembers}
use Rattle.schema_traits.specs.declared.resolver.Resolver.{Ghosts as ResolverMembers}
use Rattle.schema_traits.specs.declared.table.KeywordTable.{Ghosts as TableMembers}
use Rattle.pattern_matcher.specs.declared.treatment.Treatment.{Treatment}
use Rattle.schema_compiled.specs.Program.{Program}
use Rattle.schema_keys.specs.Checking.{MetaChecks}
use Rattle.schema_keys.specs.declared.error.BuildError as engine
use Rattle.standard_keywords.specs.declared.table.StandardTable.{StandardTable}
use Rattle.standard_resolver.specs.ResolverDocuments.{GivenDocument, HeldDocuments}
use Rattle.meta_checker.specs.DraftChecks.{DraftPrograms, checked_by}
use Rattle.standard_meta.specs.DraftMeanings.{regexes}
use Rattle.jsonschema.specs.BuildOptions.{BuildOptions, HasNeeded, needed_draft}
use Rattle.jsonschema.specs.Built.{EachMeans, IsBuiltFrom, IsRefusedFrom}
use Rattle.jsonschema.specs.Supplied.{checks_beside, meta_for, meta_options}
use Rattle.jsonschema.specs.declared.error.BuildError.{BuildError}
use Rattle.jsonschema.specs.declared.error.BuildError.TheVariants.{MetaSchemaRefused, MetaSchemaUnfit, MetaSchemas, OutOfMemory, Refused}

-- a document is among the supplied meta-schemas that a schema leads to
pub data LeadsTo (d : GivenDocument) : BuildOptions → Value → Type 0 where
  names_it : {o : BuildOptions} {schema : Value} → meta_for o (view schema) ≡ Some d → LeadsTo d o schema
  goes_on : {o : BuildOptions} {schema : Value} (next : GivenDocument) → meta_for o (view schema) ≡ Some next
      → LeadsTo d (meta_options o next) next.value → LeadsTo d o schema

-- a document under this URI is among them
abbrev pub LeadsUnder : BuildOptions → Value → Text → Type 0
LeadsUnder o schema uri = (d : GivenDocument) × LeadsTo d o schema × (uri ≡ d.uri)

module _ {State S C Maker Run K : Type 0} (resolvers : ResolverMembers HeldDocuments State S) (tables : TableMembers StandardTable C Maker Run K)
    (keywords : KeywordMembers C Run K) where
  module _ (ps : DraftPrograms C Treatment) where
    -- these checks are those of a schema: by the standard's meta-schemas, which these programs mean;
    -- or by the one that it names among the documents, whose program is built under its own checks,
    -- and beside it by the standard's
    pub data AreChecks : BuildOptions → Value → MetaChecks → Type 0 where
      by_standard : {o : BuildOptions} {schema : Value} → meta_for o (view schema) ≡ None → AreChecks o schema (checked_by keywords regexes ps)
      by_supplied : {o : BuildOptions} {schema : Value} (meta : GivenDocument) (own : MetaChecks) (p : Program C Treatment)
          → meta_for o (view schema) ≡ Some meta → AreChecks (meta_options o meta) meta.value own
          → IsBuiltFrom resolvers tables keywords own (meta_options o meta) meta.value p
          → AreChecks o schema (checks_beside keywords ps schema p)

    -- the validator is built from the schema by these options, under its checks
    pub record IsChecked (o : BuildOptions) (schema : Value) (p : Program C Treatment) : Type 0 where
      pub checks : MetaChecks
      pub are : AreChecks o schema checks
      pub from : IsBuiltFrom resolvers tables keywords checks o schema p

    -- the engine's error refuses such a build
    pub record IsUnchecked (o : BuildOptions) (schema : Value) (e : engine.BuildError) : Type 0 where
      pub checks : MetaChecks
      pub are : AreChecks o schema checks
      pub refused : IsRefusedFrom resolvers tables keywords checks o schema e

    -- the engine's error refuses the build of a supplied meta-schema that the schema leads to
    pub record RefusesMeta (o : BuildOptions) (schema : Value) (uri : Text) (e : engine.BuildError) : Type 0 where
      pub meta : GivenDocument
      pub leads : LeadsTo meta o schema
      pub under : uri ≡ meta.uri
      pub refused : IsUnchecked (meta_options o meta) meta.value e

    -- an error that refuses the schema, or a meta-schema that it leads to, names the engine's; the
    -- others say that the check could not be made, or that memory was refused
    abbrev pub RefusesChecked : BuildOptions → Value → BuildError → Type 0
    RefusesChecked o schema (Refused e) = IsUnchecked o schema e
    RefusesChecked o schema (MetaSchemaRefused uri e) = RefusesMeta o schema (string_bytes uri) e
    RefusesChecked o schema (MetaSchemaUnfit uri) = LeadsUnder o schema (string_bytes uri)
    RefusesChecked o schema (MetaSchemas e) = Unit {0}
    RefusesChecked o schema OutOfMemory = Unit {0}

    -- among the programs are those that the check needs
    pub record IsBuiltWith (o : BuildOptions) (schema : Value) (p : Program C Treatment) : Type 0 where
      pub needed : o.engine.checks ≡ true → HasNeeded (needed_draft o (view schema)) ps
      pub checked : IsChecked o schema p

  module _ (o : BuildOptions) (schema : Value) where
    -- the validator is built from the schema by these options, under its checks by the meta-schemas
    -- of the standard, and by the one that it names among the documents
    pub record IsValidatorOf (p : Program C Treatment) : Type 0 where
      pub metas : DraftPrograms C Treatment
      pub each : EachMeans resolvers tables keywords metas
      pub built : IsBuiltWith metas o schema p

    -- the error refuses such a build
    pub record IsNoValidatorOf (e : BuildError) : Type 0 where
      pub metas : DraftPrograms C Treatment
      pub each : EachMeans resolvers tables keywords metas
      pub refused : RefusesChecked metas o schema e
