-- What a build of a map promises, from what is known of the root's key and of the places that the map holds.
use Rattle.std.proofs.Common.{◌≡◌, [], Bool, inl, inr, subst, sym}
use Rattle.std.specs.Prelude.{None, Option, Some, flat_map}
use Rattle.serde_json.specs.Data.{Data}
use Rattle.theory_definitions.specs.Parts.{Parts}
use Rattle.theory_definitions.specs.Plan.{Key}
use Rattle.theory_meaning.specs.Refusals.{undeclared}
use Rattle.schema_traits.specs.ResolverViews.{IsInside}
use Rattle.schema_keys.specs.Alone.{RefusesVocabularies}
use Rattle.schema_keys.specs.Checking.{AcceptsSchema, MetaChecks, RefusesSchema}
use Rattle.schema_keys.specs.Compiling.{Each, no_keywords, no_matcher, no_table}
use Rattle.schema_keys.specs.declared.error.BuildError.{BuildError}
use Rattle.schema_keys.specs.DocumentSchemas.{IndicesFit, schemas_of}
use Rattle.schema_validator.specs.BuildResults.{IsMapBuilt}
use Rattle.schema_validator.specs.Entries.{HoldsPlaces, RefusesOneOf}
use Rattle.schema_validator.specs.Handed.{Handed, Options, parts_of}
use Rattle.schema_validator.specs.MapViews.{Entries}
use Rattle.schema_validator.specs.Mapped.{MapIsBuilt, MapRefused, no_root, not_accepted, not_declared, past_limit}
use Rattle.schema_compiled.specs.Program.{Program}
use Rattle.schema_validator.specs.Roots.{IsRootKey, RefusesKey, root_parts}
use Rattle.schema_validator.proofs.DocumentMap.{holds_compiled, holds_each, of_each}
use Rattle.schema_validator.proofs.RootKeys.{one_root_key, root_key_too}

module _ {S K R C M : Type 0} (h : Handed S K R C M) (options : Options) (schema : Data) where
  abbrev w : Bool → Parts S K R
  w texts = parts_of h.resolver h.table h.matcher (h.words texts) options

  module _ (root : Key S) (key : IsRootKey (root_parts h.resolver options) schema root) where
    is_root : (texts : Bool) → IsRootKey (w texts) schema root
    is_root texts = root_key_too h.resolver no_table h.table no_matcher h.matcher no_keywords (h.words texts) options schema root key

    pub refuses_vocabularies : (refuses : MetaChecks) (e : BuildError) → ((texts : Bool) → RefusesVocabularies (w texts) root e) → MapRefused h options schema refuses e
    refuses_vocabularies refuses e why = λ texts. not_declared root (is_root texts) (why texts)

    pub refuses_schema : (refuses : MetaChecks) (e : BuildError) → RefusesSchema h.resolver refuses root.target.draft root.target.place e → MapRefused h options schema refuses e
    refuses_schema refuses e why = λ texts. not_accepted root (is_root texts) why

    pub refuses_entry : (refuses : MetaChecks) (document : Option Data) → h.resolver.value root.target.place ≡ document → (e : BuildError) → RefusesOneOf h options root (schemas_of document) e → MapRefused h options schema refuses e
    refuses_entry refuses None stands e why = absurd why.1
    refuses_entry refuses (Some document) stands e why = λ texts. elim (why.2 texts) [
      | inl memory ↦ no_root (subst (RefusesKey (w texts) schema) (sym memory) tt)
      | inr limit ↦ past_limit root document why.0 limit.0 (is_root texts) stands why.1 limit.1 limit.2
    ]

    module _ (declared : (texts : Bool) → flat_map (undeclared (w texts)) root.target.vocabularies ≡ []) where
      pub is_built : (refuses : MetaChecks) → AcceptsSchema h.resolver refuses root.target.draft root.target.place → MapIsBuilt h options schema refuses
      is_built refuses accepted = λ texts. record {
        root = root;
        is_root = is_root texts;
        alone = λ other is. one_root_key (w texts) schema other root is (is_root texts);
        declared = declared texts;
        accepted = accepted;
      }

      pub is_map : (refuses : MetaChecks) → AcceptsSchema h.resolver refuses root.target.draft root.target.place → IsInside h.resolver → (document : Option Data) → h.resolver.value root.target.place ≡ document → Each IndicesFit (schemas_of document) → (m : Entries (Program C M))
          → HoldsPlaces h options schema root (schemas_of document) m → IsMapBuilt h refuses options schema m
      is_map refuses accepted law document stands fit m held =
          record {
            holds = holds_compiled h options schema root law is_root declared document stands m held;
            means = of_each h options schema root law is_root declared document stands m held _ (λ k p alone. alone.means);
            units = of_each h options schema root law is_root declared document stands m held _ (λ k p alone. alone.units);
            points = of_each h options schema root law is_root declared document stands m held _ (λ k p alone. alone.points);
            units_point = of_each h options schema root law is_root declared document stands m held _ (λ k p alone. alone.units_point);
            greatest = of_each h options schema root law is_root declared document stands m held _ (λ k p alone. alone.greatest);
            solver = of_each h options schema root law is_root declared document stands m held _ (λ k p alone. alone.solver);
            programs = of_each h options schema root law is_root declared document stands m held _ (λ k p alone. (alone.within, alone.program));
            finishing = of_each h options schema root law is_root declared document stands m held _ (λ k p alone. alone.finishing);
            at_each = holds_each h options schema root law is_root declared document stands m held fit (λ k p alone. record { means = alone.means; units = alone.units; points = alone.points; units_point = alone.units_point; greatest = alone.greatest; solver = alone.solver; within = alone.within; program = alone.program; finishing = alone.finishing });
            builds = is_built refuses accepted;
          }
