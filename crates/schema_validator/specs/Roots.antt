-- The key of a schema's root, by the options, the schema and the resolver; and why a schema is
-- refused. (Core 2020-12, 4.3.5 and 9.1.1)
use Rattle.std.specs.Prelude.{List, None, Ok, Err, Some, false, length, string_bytes, ◌≡◌, ◌⊎◌, ◌≤◌, ℕ}
use Rattle.serde_json.specs.Data.{Data}
use Rattle.serde_json.specs.Written.{has_float}
use Rattle.theory_definitions.specs.Instance.{Text}
use Rattle.theory_definitions.specs.Drafts.{Draft}
use Rattle.theory_definitions.specs.Resolving.{Entrance, Resolver}
use Rattle.theory_definitions.specs.Parts.{Parts}
use Rattle.theory_definitions.specs.Plan.{Key}
use Rattle.theory_meaning.specs.Reach.{IsReach}
use Rattle.theory_meaning.specs.Refusals.{Compiles}
use Rattle.theory_meaning.specs.Root.{root_draft, base_of, key_at}
use Rattle.schema_keys.specs.Compiling.{no_table, no_keywords, no_matcher}
use Rattle.schema_compiler.specs.Compilation.{RefusesRoot}
use Rattle.schema_keys.specs.declared.error.BuildError.{BuildError}
use Rattle.schema_keys.specs.declared.error.BuildError.TheVariants.{KeywordRefused, Lookup, MetaSchema, MissingRoot, NodeLimit, NotASchema, OutOfMemory, ReferenceNotText, UnsupportedVocabulary}
use Rattle.schema_validator.specs.Handed.{Options, parts_of}

-- the parts that depend on the resolver and the options alone
abbrev pub root_parts : {S : Type 0} → Resolver S → Options → Parts S (Unit {0}) (Unit {0})
root_parts resolver options = parts_of resolver no_table no_matcher no_keywords options

module _ {S K R : Type 0} (w : Parts S K R) (schema : Data) where
  -- the key of the place where the document under the root's base begins, read in the root's draft;
  -- the value there may be anything
  pub record IsRootKey (k : Key S) : Type 0 where
    pub draft : Draft
    pub entrance : Entrance S
    pub drafted : root_draft w schema ≡ Ok draft
    pub entered : w.resolver.root (base_of w draft schema) ≡ Some entrance
    pub is_key : k ≡ key_at w entrance draft

  -- the root's base, under which the resolver has no document
  pub record IsMissingBase (uri : Text) : Type 0 where
    pub draft : Draft
    pub drafted : root_draft w schema ≡ Ok draft
    pub is_base : uri ≡ base_of w draft schema
    pub missing : w.resolver.root uri ≡ None

  -- a schema that builds: its root has one key, there is no cause to refuse what the key reaches,
  -- and that is within the limit
  pub record Builds (limit : ℕ) : Type 0 where
    pub root : Key S
    pub is_root : IsRootKey root
    pub alone : (other : Key S) → IsRootKey other → other ≡ root
    pub compiles : Compiles w root
    pub keys : List (Key S)
    pub reach : IsReach w root keys
    pub within : length keys ≤ limit

  -- why a schema's root has no key; the text is the resolver's if the schema holds no fraction;
  -- lack of memory says nothing
  abbrev pub RefusesKey : BuildError → Type 0
  RefusesKey (NotASchema location) = ⊥
  RefusesKey (ReferenceNotText location) = ⊥
  RefusesKey (Lookup text) = (shown : Text) × (root_draft w schema ≡ Err shown) × (has_float schema ≡ false → string_bytes text ≡ shown)
  RefusesKey (KeywordRefused error) = ⊥
  RefusesKey (UnsupportedVocabulary uri) = ⊥
  RefusesKey (MetaSchema error) = ⊥
  RefusesKey (MissingRoot uri) = IsMissingBase (string_bytes uri)
  RefusesKey (NodeLimit n) = ⊥
  RefusesKey OutOfMemory = Unit {0}

  -- why a schema is refused: its root has no key, or there is a cause to refuse what the root's key
  -- reaches, or that is more keys than the limit
  abbrev pub RefusesBuild : ℕ → BuildError → Type 0
  RefusesBuild limit error = RefusesKey error ⊎ ((root : Key S) × IsRootKey root × RefusesRoot w limit root error)
