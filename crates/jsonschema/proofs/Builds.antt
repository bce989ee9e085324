-- The clauses of a build, put together, and those of a build from sources.
use Rattle.std.proofs.Common.{Err, IfErr, IfOk, Ok, Result, ap, inl, inr, subst, ◌≡◌, ◌⊎◌}
use Rattle.serde_json.specs.Data.{Data}
use Rattle.serde_json.specs.View.{view}
use Rattle.theory_definitions.specs.Keywords.{Answer}
use Rattle.schema_traits.specs.declared.keyword.Validate.{Ghosts as KeywordMembers}
use Rattle.schema_traits.specs.declared.resolver.Resolver.{Ghosts as ResolverMembers}
use Rattle.schema_traits.specs.declared.table.KeywordTable.{Ghosts as TableMembers}
use Rattle.pattern_matcher.specs.declared.treatment.Treatment.{Treatment}
use Rattle.schema_keys.specs.Checking.{MetaChecks}
use Rattle.schema_keys.specs.declared.error.BuildError.{BuildError}
use Rattle.schema_keys.specs.declared.error.BuildError.TheVariants.{OutOfMemory}
use Rattle.schema_validator.specs.BuildResults as results
use Rattle.schema_validator.specs.Handed.{Handed, Options, handed}
use Rattle.schema_compiled.specs.Program.{Program}
use Rattle.standard_resolver.specs.ResolverDocuments.{HeldDocuments}
use Rattle.standard_keywords.specs.declared.patterns.UnreadablePatterns.TheVariants as unreadable
use Rattle.standard_keywords.specs.declared.table.StandardTable.{StandardTable}
use Rattle.standard_meta.specs.DraftMeanings.{regexes}
use Rattle.jsonschema.specs.Built.{IsBuilt, IsBuiltOf, IsRefused, IsRefusedOf, matcher_of, parts_by}
use Rattle.jsonschema.specs.Sources.{IsResolverOf, SchemaSources, options_by}

module _ {State S C Maker Run K : Type 0} (resolvers : ResolverMembers HeldDocuments State S) (tables : TableMembers StandardTable C Maker Run K)
    (keywords : KeywordMembers C Run K) where
  -- the parts of a build with a table and a matcher
  abbrev parts : HeldDocuments → StandardTable → Treatment → Handed S K (Run × Answer) C Treatment
  parts r table m = handed resolvers tables keywords regexes r table m

  -- the table refuses patterns that cannot be read
  same_parts : (r : HeldDocuments) (m : Treatment) (table : StandardTable) → table.unreadable ≡ unreadable.Refused
      → parts r table m ≡ parts_by resolvers tables keywords r m
  same_parts r m table refuses = ap (λ u. parts r (record { unreadable = u }) m) refuses

  module _ (r : HeldDocuments) (m : Treatment) (refuses : MetaChecks) (options : Options) (schema : Data) (table : StandardTable) where
    pub built_by : (x : Result (Program C Treatment) BuildError) → table.unreadable ≡ unreadable.Refused
        → IfOk x (λ p. results.IsBuilt (parts r table m) refuses options schema options.nested p)
        → IfOk x (λ p. IsBuilt resolvers tables keywords r m refuses options schema p)
    built_by (Ok p) made said = record { built = subst (λ h. results.IsBuilt h refuses options schema options.nested p) (same_parts r m table made) said }
    built_by (Err e) made said = tt

    pub refused_by : (x : Result (Program C Treatment) BuildError) → table.unreadable ≡ unreadable.Refused
        → IfErr x (λ e. results.IsRefused (parts r table m) refuses options schema e)
        → IfErr x (λ e. (e ≡ OutOfMemory) ⊎ IsRefused resolvers tables keywords r m refuses options schema e)
    refused_by (Ok p) made said = tt
    refused_by (Err e) made said = inr (record { refused = subst (λ h. results.IsRefused h refuses options schema e) (same_parts r m table made) said })

  module _ (refuses : MetaChecks) (given : Options) (s : SchemaSources) (m : Treatment) (r : HeldDocuments) (options : Options) (schema : Data)
      (is : IsResolverOf s r) (matches : m ≡ matcher_of s) (by : options ≡ options_by s given) (same : schema ≡ view s.schema) where
    pub built_of : (p : Program C Treatment) → IsBuilt resolvers tables keywords r m refuses options schema p
        → IsBuiltOf resolvers tables keywords refuses given s p
    built_of p said = record {
      resolver = r;
      resolves = is;
      built = subst (λ k. IsBuilt resolvers tables keywords r k refuses (options_by s given) (view s.schema) p) matches
          (subst (λ o. IsBuilt resolvers tables keywords r m refuses o (view s.schema) p) by
          (subst (λ d. IsBuilt resolvers tables keywords r m refuses options d p) same said));
    }

    pub refused_of : (e : BuildError) → (e ≡ OutOfMemory) ⊎ IsRefused resolvers tables keywords r m refuses options schema e
        → (e ≡ OutOfMemory) ⊎ IsRefusedOf resolvers tables keywords refuses given s e
    refused_of e (inl memory) = inl memory
    refused_of e (inr refused) = inr (record {
      resolver = r;
      resolves = is;
      refused = subst (λ k. IsRefused resolvers tables keywords r k refuses (options_by s given) (view s.schema) e) matches
          (subst (λ o. IsRefused resolvers tables keywords r m refuses o (view s.schema) e) by
          (subst (λ d. IsRefused resolvers tables keywords r m refuses options d e) same refused));
    })
