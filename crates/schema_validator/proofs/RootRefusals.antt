-- A root without a key refuses a build and a map, and so does lack of memory; and it is the first cause.
use Rattle.std.proofs.Common.{Bool, inl}
use Rattle.serde_json.specs.Data.{Data}
use Rattle.theory_definitions.specs.Parts.{Parts}
use Rattle.schema_keys.specs.Checking.{MetaChecks}
use Rattle.schema_keys.specs.declared.error.BuildError.{BuildError}
use Rattle.schema_keys.specs.declared.error.BuildError.TheVariants.{KeywordRefused, Lookup, MetaSchema, MissingRoot, NodeLimit, NotASchema, OutOfMemory, ReferenceNotText, UnsupportedVocabulary}
use Rattle.schema_validator.specs.BuildResults.{IsMapRefused, IsRefused}
use Rattle.schema_validator.specs.FirstCauses.{names_root}
use Rattle.schema_validator.specs.Handed.{Handed, Options, parts_of}
use Rattle.schema_validator.specs.Mapped.{no_root}
use Rattle.schema_validator.specs.Roots.{RefusesKey, root_parts}

module _ {S K R C M : Type 0} (h : Handed S K R C M) (refuses : MetaChecks) (options : Options) (schema : Data) where
  abbrev w : Bool → Parts S K R
  w texts = parts_of h.resolver h.table h.matcher (h.words texts) options

  -- why a root has no key depends on the resolver and the options alone
  key_refused : (e : BuildError) → RefusesKey (root_parts h.resolver options) schema e → (texts : Bool) → RefusesKey (w texts) schema e
  key_refused (NotASchema location) why texts = absurd why
  key_refused (ReferenceNotText location) why texts = absurd why
  key_refused (Lookup text) why texts = why
  key_refused (KeywordRefused error) why texts = absurd why
  key_refused (UnsupportedVocabulary uri) why texts = absurd why
  key_refused (MetaSchema error) why texts = absurd why
  key_refused (MissingRoot uri) why texts = record { draft = why.draft; drafted = why.drafted; is_base = why.is_base; missing = why.missing }
  key_refused (NodeLimit n) why texts = absurd why
  key_refused OutOfMemory why texts = tt

  pub root_refuses : (e : BuildError) → RefusesKey (root_parts h.resolver options) schema e → IsRefused h refuses options schema e
  root_refuses e why = record { refused = inl (λ texts. inl (key_refused e why texts)); first = λ texts. names_root (key_refused e why texts) }

  pub memory_refuses : IsRefused h refuses options schema OutOfMemory
  memory_refuses = root_refuses OutOfMemory tt

  pub root_refuses_map : (e : BuildError) → RefusesKey (root_parts h.resolver options) schema e → IsMapRefused h refuses options schema e
  root_refuses_map e why = record { refused = λ texts. no_root (key_refused e why texts); first = λ texts. names_root (key_refused e why texts) }

  pub memory_refuses_map : IsMapRefused h refuses options schema OutOfMemory
  memory_refuses_map = root_refuses_map OutOfMemory tt
