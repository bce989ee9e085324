-- Builds under the checks of their schemas, by the meta-schema that is supplied or by none.
use Rattle.std.proofs.Common.{None, Some, refl, subst, sym, ◌≡◌}
use Rattle.std.specs.Prelude.{String, string_bytes}
use Rattle.std.specs.declared.alloc.Global.{Global}
use Rattle.serde_json.specs.View.{view}
use Rattle.serde_json.specs.declared.value.Value.{Value}
use Rattle.schema_traits.specs.declared.keyword.Validate.{Ghosts as KeywordMembers}
use Rattle.schema_traits.specs.declared.resolver.Resolver.{Ghosts as ResolverMembers}
use Rattle.schema_traits.specs.declared.table.KeywordTable.{Ghosts as TableMembers}
use Rattle.pattern_matcher.specs.declared.treatment.Treatment.{Treatment}
use Rattle.schema_compiled.specs.Program.{Program}
use Rattle.standard_keywords.specs.declared.table.StandardTable.{StandardTable}
use Rattle.standard_resolver.specs.Dialects.{schema_of, text_or_none}
use Rattle.standard_resolver.specs.ResolverDocuments.{GivenDocument, HeldDocuments}
use Rattle.theory_definitions.specs.Instance.{Text}
use Rattle.meta_checker.specs.DraftChecks.{DraftPrograms, checked_by}
use Rattle.standard_meta.specs.DraftMeanings.{regexes}
use Rattle.jsonschema.specs.BuildOptions.{BuildOptions}
use Rattle.jsonschema.specs.Built.{IsBuiltFrom, RefusesFrom}
use Rattle.jsonschema.specs.Checked.{AreChecks, IsChecked, LeadsUnder, RefusesChecked}
use Rattle.jsonschema.specs.Checked.AreChecks.{by_standard, by_supplied}
use Rattle.jsonschema.specs.Checked.LeadsTo.{goes_on, names_it}
use Rattle.jsonschema.specs.Refusing.{IsUnrefused, blamed}
use Rattle.jsonschema.specs.Supplied.{checked_beside, checks_beside, meta_for, meta_options}
use Rattle.jsonschema.specs.declared.error.BuildError.{BuildError}
use Rattle.jsonschema.specs.declared.error.BuildError.TheVariants.{MetaSchemaRefused, MetaSchemaUnfit, MetaSchemas, OutOfMemory, Refused}

-- the meta-schema that a schema names is among those that it leads to
pub names_under : (o : BuildOptions) (schema : Value) (meta : GivenDocument) → meta_for o (view schema) ≡ Some meta → LeadsUnder o schema meta.uri
names_under o schema meta named = (meta, names_it named, refl)

module _ {State S C Maker Run K : Type 0} (resolvers : ResolverMembers HeldDocuments State S) (tables : TableMembers StandardTable C Maker Run K)
    (keywords : KeywordMembers C Run K) (ps : DraftPrograms C Treatment) (o : BuildOptions) (schema : Value) where
  -- an error that refuses no schema
  pub unrefused_checked : (b : BuildError) → IsUnrefused b → RefusesChecked resolvers tables keywords ps o schema b
  unrefused_checked (Refused e) none = absurd none
  unrefused_checked (MetaSchemaRefused uri e) none = absurd none
  unrefused_checked (MetaSchemaUnfit uri) none = absurd none
  unrefused_checked (MetaSchemas e) none = tt
  unrefused_checked OutOfMemory none = tt

  -- ---- by the standard's meta-schemas

  module _ (none : meta_for o (view schema) ≡ None) where
    pub checked_standard : (p : Program C Treatment) → IsBuiltFrom resolvers tables keywords (checked_by keywords regexes ps) o schema p
        → IsChecked resolvers tables keywords ps o schema p
    checked_standard p from = record { checks = checked_by keywords regexes ps; are = by_standard none; from = from }

    pub refused_standard : (b : BuildError) → RefusesFrom resolvers tables keywords (checked_by keywords regexes ps) o schema b
        → RefusesChecked resolvers tables keywords ps o schema b
    refused_standard (Refused e) refused = record { checks = checked_by keywords regexes ps; are = by_standard none; refused = refused }
    refused_standard (MetaSchemaRefused uri e) refused = absurd refused
    refused_standard (MetaSchemaUnfit uri) refused = absurd refused
    refused_standard (MetaSchemas e) refused = tt
    refused_standard OutOfMemory refused = tt

  -- ---- the text that names a supplied meta-schema

  module _ (checker : Program C Treatment) (t : Text) (named : t ≡ text_or_none (schema_of (view schema))) where
    pub built_named : (p : Program C Treatment)
        → IsBuiltFrom resolvers tables keywords (checked_beside keywords regexes t checker (checked_by keywords regexes ps)) o schema p
        → IsBuiltFrom resolvers tables keywords (checks_beside keywords ps schema checker) o schema p
    built_named p said = subst (λ u. IsBuiltFrom resolvers tables keywords (checked_beside keywords regexes u checker (checked_by keywords regexes ps)) o schema p) named said

    pub refused_named : (b : BuildError)
        → RefusesFrom resolvers tables keywords (checked_beside keywords regexes t checker (checked_by keywords regexes ps)) o schema b
        → RefusesFrom resolvers tables keywords (checks_beside keywords ps schema checker) o schema b
    refused_named b said = subst (λ u. RefusesFrom resolvers tables keywords (checked_beside keywords regexes u checker (checked_by keywords regexes ps)) o schema b) named said

  -- ---- by a supplied meta-schema, and beside it by the standard's

  module _ (meta : GivenDocument) (named : meta_for o (view schema) ≡ Some meta) (options : BuildOptions) (by : options ≡ meta_options o meta) where
    module _ (p q : Program C Treatment) (is : q ≡ p) (built : IsChecked resolvers tables keywords ps options meta.value p) where
      -- the validator of the meta-schema
      own : IsChecked resolvers tables keywords ps (meta_options o meta) meta.value q
      own = subst (λ x. IsChecked resolvers tables keywords ps (meta_options o meta) meta.value x) (sym is)
          (subst (λ x. IsChecked resolvers tables keywords ps x meta.value p) by built)

      are_beside : AreChecks resolvers tables keywords ps o schema (checks_beside keywords ps schema q)
      are_beside = by_supplied meta own.checks q named own.are own.from

      pub checked_supplied : (v : Program C Treatment) → IsBuiltFrom resolvers tables keywords (checks_beside keywords ps schema q) o schema v
          → IsChecked resolvers tables keywords ps o schema v
      checked_supplied v from = record { checks = checks_beside keywords ps schema q; are = are_beside; from = from }

      pub refused_supplied : (b : BuildError) → RefusesFrom resolvers tables keywords (checks_beside keywords ps schema q) o schema b
          → RefusesChecked resolvers tables keywords ps o schema b
      refused_supplied (Refused e) refused = record { checks = checks_beside keywords ps schema q; are = are_beside; refused = refused }
      refused_supplied (MetaSchemaRefused uri e) refused = absurd refused
      refused_supplied (MetaSchemaUnfit uri) refused = absurd refused
      refused_supplied (MetaSchemas e) refused = tt
      refused_supplied OutOfMemory refused = tt

    -- what refuses the build of the meta-schema, which has this URI
    blamed_for : (uri : String Global) → string_bytes uri ≡ meta.uri → (b : BuildError)
        → RefusesChecked resolvers tables keywords ps (meta_options o meta) meta.value b → RefusesChecked resolvers tables keywords ps o schema (blamed uri b)
    blamed_for uri under (Refused e) refused = record { meta = meta; leads = names_it named; under = under; refused = refused }
    blamed_for uri under (MetaSchemaRefused below e) refused = record {
      meta = refused.meta;
      leads = goes_on meta named refused.leads;
      under = refused.under;
      refused = refused.refused;
    }
    blamed_for uri under (MetaSchemaUnfit below) refused = (refused.0, goes_on meta named refused.1, refused.2)
    blamed_for uri under (MetaSchemas e) refused = tt
    blamed_for uri under OutOfMemory refused = tt

    pub refused_meta : (uri : String Global) → string_bytes uri ≡ meta.uri → (b c : BuildError) → c ≡ blamed uri b
        → RefusesChecked resolvers tables keywords ps options meta.value b → RefusesChecked resolvers tables keywords ps o schema c
    refused_meta uri under b c same refused = subst (λ x. RefusesChecked resolvers tables keywords ps o schema x) (sym same)
        (blamed_for uri under b (subst (λ x. RefusesChecked resolvers tables keywords ps x meta.value b) by refused))
