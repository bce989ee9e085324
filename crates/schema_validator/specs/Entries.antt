-- Facts about an entry of a map during the build: the validator at a place, why there is none, and
-- what the map holds of the places so far.
use Rattle.std.specs.Prelude.{Bool, List, Option, Some, [], bytes_eq, flat_map, if◌then◌else◌, length, MatchOption, ◌≡◌, ◌≤◌, ◌⊎◌}
use Rattle.serde_json.specs.Data.{Data}
use Rattle.theory_definitions.specs.Instance.{Place, Text}
use Rattle.theory_meaning.specs.MapPointers.{IsCompiled, StandsBelow, entry_key}
use Rattle.theory_definitions.specs.Parts.{Parts}
use Rattle.theory_definitions.specs.Plan.{Key}
use Rattle.theory_meaning.specs.Refusals.{Cause, undeclared}
use Rattle.schema_keys.specs.Alone.{RefusesKeyAlone}
use Rattle.schema_compiler.specs.Compilation as compilation
use Rattle.schema_keys.specs.Checking.{AcceptsSchema, MetaChecks}
use Rattle.schema_keys.specs.Compiling.{Each, In}
use Rattle.schema_keys.specs.declared.error.BuildError.{BuildError}
use Rattle.schema_keys.specs.declared.error.BuildError.TheVariants.{OutOfMemory}
use Rattle.schema_keys.specs.DocumentSchemas.{IndicesFit, schemas_of}
use Rattle.schema_validator.specs.Greatest.{AcceptsAsKey}
use Rattle.schema_validator.specs.Handed.{Handed, Options, parts_of}
use Rattle.schema_validator.specs.MapViews.{Entries, at_pointer}
use Rattle.schema_validator.specs.Mapped.{RefusesLimit, name_of}
use Rattle.schema_compiled.specs.Program.{Program}
use Rattle.schema_validator.specs.ProgramOf.{IsProgramFrom}
use Rattle.schema_compiled.specs.Solved.{HasSolver}
use Rattle.schema_validator.specs.Promised.{HasKeysUnits, MeansKey, PointsFromKey, UnitsPointFromKey}

module _ {S K R C M : Type 0} (h : Handed S K R C M) (options : Options) where
  abbrev parts : Bool → Parts S K R
  parts texts = parts_of h.resolver h.table h.matcher (h.words texts) options

  -- the refusal of a subschema that is compiled by itself
  abbrev pub RefusesAlone : Key S → BuildError → Type 0
  RefusesAlone key e = (texts : Bool) → compilation.RefusesAlone (parts texts) options.limit key e

  module _ (root : Key S) (path : Place) where
    -- the schema there does not compile
    abbrev pub IsLeftOut : Type 0
    IsLeftOut = (texts : Bool) → ¬ (IsCompiled (parts texts) root path)

    -- there is no key for it, or it is refused
    abbrev pub FailsEntry : BuildError → Type 0
    FailsEntry e = (texts : Bool) → RefusesKeyAlone (entry_key (parts texts) root path) e ⊎ ((key : Key S) × (entry_key (parts texts) root path ≡ Some key) × compilation.RefusesAlone (parts texts) options.limit key e)

    -- a refusal of the whole map for one entry: lack of memory, or more keys than the limit
    abbrev pub RefusesEntry : BuildError → Type 0
    RefusesEntry e = (texts : Bool) → (e ≡ OutOfMemory) ⊎ ((key : Key S) × (entry_key (parts texts) root path ≡ Some key) × RefusesLimit (parts texts) options key e)

-- a refusal for one of these places
abbrev pub RefusesOneOf : {S K R C M : Type 0} → Handed S K R C M → Options → Key S → List Place → BuildError → Type 0
RefusesOneOf h options root paths e = (path : Place) × In paths path × RefusesEntry h options root path e

module _ {S K R C M : Type 0} (h : Handed S K R C M) (options : Options) (schema : Data) where
  -- a validator that is compiled from a key for which there is no cause of refusal, except its own
  -- vocabularies
  pub record IsCompiledAlone (key : Key S) (p : Program C M) : Type 0 where
    pub means : MeansKey h.resolver h.table h.matcher h.words options key h.shape h.is_whole h.matching p
    pub units : HasKeysUnits h.resolver h.table h.matcher h.words options key h.shape h.is_whole h.matching p
    pub points : PointsFromKey h.resolver h.table h.matcher h.words options key h.shape h.matching p
    pub units_point : UnitsPointFromKey h.resolver h.table h.matcher h.words options key h.shape h.matching p
    pub greatest : AcceptsAsKey h options key p
    pub solver : HasSolver p
    pub program : IsProgramFrom h.resolver h.table h.matcher options options.nested schema h.shape h.matching key p
    pub finishing : h.finishing p.matcher ≡ h.finishes
    pub within : length p.nodes ≤ options.limit
    pub compiles : (texts : Bool) (cause : Cause) → ¬ (StandsBelow (parts h options texts) key cause)

  module _ (root : Key S) where
    -- the validator of the schema at a path below the root
    abbrev pub IsEntry : Place → Program C M → Type 0
    IsEntry path p = (key : Key S) × ((texts : Bool) → entry_key (parts h options texts) root path ≡ Some key) × IsCompiledAlone key p

    -- the map has the validator of one more place, or the schema there does not compile
    abbrev pub IsPut : Place → Entries (Program C M) → Entries (Program C M) → Type 0
    IsPut path old new = (IsLeftOut h options root path × (new ≡ old))
        ⊎ ((p : Program C M) × IsEntry path p × ((name : Text) → at_pointer new name ≡ (if bytes_eq (name_of path) name then Some p else at_pointer old name)))

    -- of these places, the map has the validators of those that compile, and no other validator
    abbrev pub HoldsPlaces : List Place → Entries (Program C M) → Type 0
    HoldsPlaces paths es = (name : Text) → MatchOption (at_pointer es name)
        (Each (λ path. name ≡ name_of path → IsLeftOut h options root path) paths)
        (λ p. (path : Place) × (name ≡ name_of path) × IsEntry path p)

    -- a map of the document at the root: the schema is accepted, the root's vocabularies are
    -- declared, and the map holds what compiles of the document
    pub record IsMade (refuses : MetaChecks) (es : Entries (Program C M)) : Type 0 where
      pub accepted : AcceptsSchema h.resolver refuses root.target.draft root.target.place
      pub declared : (texts : Bool) → flat_map (undeclared (parts h options texts)) root.target.vocabularies ≡ []
      pub document : Option Data
      pub stands : h.resolver.value root.target.place ≡ document
      pub fit : Each IndicesFit (schemas_of document)
      pub held : HoldsPlaces (schemas_of document) es
