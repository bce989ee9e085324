-- Builds by options, put together from builds of sources.
use Rattle.std.proofs.Common.{Err, IfErr, IfOk, Ok, Result, [], ap, subst, sym, true≢false, ◌≡◌, ◌⊎◌}
use Rattle.std.specs.Prelude.{List, OnOk, is_ok, true}
use Rattle.std.proofs.lemmas.List.{append-nil}
use Rattle.serde_json.specs.declared.value.Value.{Value}
use Rattle.pattern_matcher.specs.declared.treatment.Treatment.{Treatment}
use Rattle.schema_keys.specs.Checking.{MetaChecks}
use Rattle.schema_keys.specs.declared.error.BuildError as engine
use Rattle.schema_keys.specs.declared.error.BuildError.TheVariants as memory
use Rattle.schema_compiled.specs.Program.{Program}
use Rattle.schema_validator.specs.Handed.{Options}
use Rattle.schema_traits.specs.declared.keyword.Validate.{Ghosts as KeywordMembers}
use Rattle.schema_traits.specs.declared.resolver.Resolver.{Ghosts as ResolverMembers}
use Rattle.schema_traits.specs.declared.table.KeywordTable.{Ghosts as TableMembers}
use Rattle.standard_resolver.specs.ResolverDocuments.{GivenDocument, HeldDocuments}
use Rattle.standard_keywords.specs.declared.table.StandardTable.{StandardTable}
use Rattle.jsonschema.specs.BuildOptions.{BuildOptions, sources_of}
use Rattle.jsonschema.specs.Built.{AreStandard, IsBuiltFrom, IsBuiltOf, IsRefusedFrom, IsRefusedOf, RefusesFrom}
use Rattle.jsonschema.specs.Refusing.{IsUnrefused, Tells, TellsOf}
use Rattle.jsonschema.specs.Sources.{SchemaSources, with_documents}
use Rattle.jsonschema.specs.declared.error.BuildError.{BuildError}
use Rattle.jsonschema.specs.declared.error.BuildError.TheVariants.{MetaSchemaRefused, MetaSchemaUnfit, MetaSchemas, OutOfMemory, Refused}

-- ---- results that are told

-- what was built, if it is what is told
pub built_told : {V E X : Type 0} (r : Result V E) (x : Result V X) (P : V → Type 0) → IfOk x (λ v. r ≡ Ok v) → IfOk r P → IfOk x P
built_told r (Ok v) P same said = subst (λ y. IfOk y P) same said
built_told r (Err e) P same said = tt

-- what was refused, if it is what is told
pub refused_told : {V : Type 0} (r : Result V engine.BuildError) (x : Result V BuildError) (P : engine.BuildError → Type 0) (Q : BuildError → Type 0)
    → ((e : engine.BuildError) (b : BuildError) → Tells e b → P e → Q b) → IfErr x (TellsOf r) → IfErr r P → IfErr x Q
refused_told r (Ok v) P Q f tells said = tt
refused_told (Ok v) (Err b) P Q f tells said = absurd tells
refused_told (Err e) (Err b) P Q f tells said = f e b tells said

-- what was done, if that is what is told
pub done_told : {U E X : Type 0} (r : Result U E) (x : Result U X) (P : Type 0) → OnOk x (is_ok r ≡ true) → OnOk r P → OnOk x P
done_told (Ok u) (Ok v) P same said = said
done_told (Err e) (Ok v) P same said = absurd (true≢false (sym same))
done_told r (Err e) P same said = tt

-- ---- sources

-- no documents are added
pub with_none : (s : SchemaSources) → with_documents s [] ≡ s
with_none s = ap (λ ds. record s { documents = ds }) (append-nil s.documents)

module _ {State S C Maker Run K : Type 0} (resolvers : ResolverMembers HeldDocuments State S) (tables : TableMembers StandardTable C Maker Run K)
    (keywords : KeywordMembers C Run K) (refuses : MetaChecks) where
  module _ (o : BuildOptions) (schema : Value) (standard : List GivenDocument) (are : AreStandard standard) (engine_options : Options) (s : SchemaSources)
      (same_options : engine_options ≡ o.engine) (same : s ≡ with_documents (sources_of o schema) standard) where
    pub built_from : (p : Program C Treatment) → IsBuiltOf resolvers tables keywords refuses engine_options s p
        → IsBuiltFrom resolvers tables keywords refuses o schema p
    built_from p built = record {
      standard = standard;
      are_standard = are;
      built = subst (λ t. IsBuiltOf resolvers tables keywords refuses o.engine t p) same
          (subst (λ e. IsBuiltOf resolvers tables keywords refuses e s p) same_options built);
    }

    pub refused_from : (e : engine.BuildError) → (e ≡ memory.OutOfMemory) ⊎ IsRefusedOf resolvers tables keywords refuses engine_options s e
        → IsRefusedFrom resolvers tables keywords refuses o schema e
    refused_from e refused = record {
      standard = standard;
      are_standard = are;
      refused = subst (λ t. (e ≡ memory.OutOfMemory) ⊎ IsRefusedOf resolvers tables keywords refuses o.engine t e) same
          (subst (λ x. (e ≡ memory.OutOfMemory) ⊎ IsRefusedOf resolvers tables keywords refuses x s e) same_options refused);
    }

  module _ (o : BuildOptions) (schema : Value) where
    -- an error that tells a refusal refuses too
    pub tells_refused : (e : engine.BuildError) (b : BuildError) → Tells e b → IsRefusedFrom resolvers tables keywords refuses o schema e
        → RefusesFrom resolvers tables keywords refuses o schema b
    tells_refused e (Refused x) same refused = subst (λ y. IsRefusedFrom resolvers tables keywords refuses o schema y) (sym same) refused
    tells_refused e (MetaSchemaRefused uri x) tells refused = absurd tells
    tells_refused e (MetaSchemaUnfit uri) tells refused = absurd tells
    tells_refused e (MetaSchemas x) tells refused = absurd tells
    tells_refused e OutOfMemory tells refused = tt

    -- the same, of a refusal under a condition
    pub tells_refused_if : (A : Type 0) (e : engine.BuildError) (b : BuildError) → Tells e b → (A → IsRefusedFrom resolvers tables keywords refuses o schema e)
        → A → RefusesFrom resolvers tables keywords refuses o schema b
    tells_refused_if A e b tells refused holds = tells_refused e b tells (refused holds)

    -- so does one that refuses no schema
    pub unrefused_refuses : (b : BuildError) → IsUnrefused b → RefusesFrom resolvers tables keywords refuses o schema b
    unrefused_refuses (Refused x) none = absurd none
    unrefused_refuses (MetaSchemaRefused uri x) none = absurd none
    unrefused_refuses (MetaSchemaUnfit uri) none = absurd none
    unrefused_refuses (MetaSchemas x) none = tt
    unrefused_refuses OutOfMemory none = tt
