-- Which cause comes first, from what is known if a build or a map of a root's key is refused.
use Rattle.std.proofs.Common.{◌≡◌, [], Bool, inl, inr, refl, subst, sym, true}
use Rattle.std.specs.Prelude.{None, Option, Some, flat_map}
use Rattle.serde_json.specs.Data.{Data}
use Rattle.theory_definitions.specs.Parts.{Parts}
use Rattle.theory_definitions.specs.Plan.{Key}
use Rattle.theory_meaning.specs.Refusals.{undeclared}
use Rattle.schema_keys.specs.Alone.{RefusesVocabularies}
use Rattle.schema_keys.specs.Compiling.{no_keywords, no_matcher, no_table}
use Rattle.schema_keys.specs.declared.error.BuildError.{BuildError}
use Rattle.schema_keys.specs.Checking.{AcceptsSchema, MetaChecks, RefusesSchema}
use Rattle.schema_compiler.specs.Compilation.{RefusesInOrder}
use Rattle.schema_keys.specs.DocumentSchemas.{schemas_of}
use Rattle.schema_validator.specs.Entries.{RefusesOneOf}
use Rattle.schema_validator.specs.FirstCauses.{FirstOfBuild, FirstOfMap, names_compiled, names_document, names_root, names_vocabulary}
use Rattle.schema_validator.specs.Handed.{Handed, Options, parts_of}
use Rattle.schema_validator.specs.Roots.{IsRootKey, RefusesKey, root_parts}
use Rattle.schema_validator.proofs.RootKeys.{root_key_too}

module _ {S K R C M : Type 0} (h : Handed S K R C M) (refuses : MetaChecks) (options : Options) (schema : Data) where
  abbrev w : Bool → Parts S K R
  w texts = parts_of h.resolver h.table h.matcher (h.words texts) options

  module _ (root : Key S) (key : IsRootKey (root_parts h.resolver options) schema root) where
    is_root : (texts : Bool) → IsRootKey (w texts) schema root
    is_root texts = root_key_too h.resolver no_table h.table no_matcher h.matcher no_keywords (h.words texts) options schema root key

    -- ---- a build

    pub document_first : (e : BuildError) → options.checks ≡ true → RefusesSchema h.resolver refuses root.target.draft root.target.place e → FirstOfBuild h refuses options schema e
    document_first e on why = λ texts. names_document root (is_root texts) on why

    pub compiled_first : (e : BuildError) → (options.checks ≡ true → AcceptsSchema h.resolver refuses root.target.draft root.target.place)
        → ((texts : Bool) → RefusesInOrder (w texts) options.limit root e) → FirstOfBuild h refuses options schema e
    compiled_first e passed why = λ texts. elim (why texts) [
      | inl vocabulary ↦ names_vocabulary root (is_root texts) passed vocabulary
      | inr compiled ↦ names_compiled root (is_root texts) passed compiled.0 compiled.1
    ]

    -- ---- a map

    pub document_first_in_map : (e : BuildError) → RefusesSchema h.resolver refuses root.target.draft root.target.place e → FirstOfMap h refuses options schema e
    document_first_in_map e why = λ texts. names_document root (is_root texts) refl why

    module _ (accepted : AcceptsSchema h.resolver refuses root.target.draft root.target.place) where
      pub vocabulary_first : (e : BuildError) → ((texts : Bool) → RefusesVocabularies (w texts) root e) → FirstOfMap h refuses options schema e
      vocabulary_first e why = λ texts. names_vocabulary root (is_root texts) (λ on. accepted) (why texts)

      pub entry_first : ((texts : Bool) → flat_map (undeclared (w texts)) root.target.vocabularies ≡ []) → (document : Option Data) → h.resolver.value root.target.place ≡ document
          → (e : BuildError) → RefusesOneOf h options root (schemas_of document) e → FirstOfMap h refuses options schema e
      entry_first declared None stands e why = absurd why.1
      entry_first declared (Some document) stands e why = λ texts. elim (why.2 texts) [
        | inl memory ↦ names_root (subst (RefusesKey (w texts) schema) (sym memory) tt)
        | inr limit ↦ names_compiled root (is_root texts) (λ on. accepted) (declared texts) (record {
          document = document;
          path = why.0;
          key = limit.0;
          stands = stands;
          inside = why.1;
          is_key = limit.1;
          passes = limit.2;
        })
      ]
