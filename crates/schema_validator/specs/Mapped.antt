-- The map of validators of a document: a validator for each object and boolean of the document that
-- compiles by itself, under `#` and its pointer; and why there is no map. (section 6 of RFC 6901)
use Rattle.std.specs.Prelude.{Bool, Some, [], flat_map, is_some, length, ◌≡◌, ◌↔◌, ◌∷◌, ◌≤◌, IsTrue}
use Rattle.serde_json.specs.Data.{Data}
use Rattle.theory_definitions.specs.Instance.{Place, Text}
use Rattle.theory_meaning.specs.MapPointers.{IsCompiled, entry_key}
use Rattle.theory_definitions.specs.Parts.{Parts}
use Rattle.theory_definitions.specs.Plan.{Key}
use Rattle.theory_definitions.specs.Pointer.{pointer_to}
use Rattle.theory_meaning.specs.Reach.{ReachesMoreThan}
use Rattle.theory_meaning.specs.Refusals.{undeclared}
use Rattle.schema_keys.specs.Alone.{RefusesVocabularies}
use Rattle.schema_keys.specs.Compiling.{In}
use Rattle.schema_keys.specs.Checking.{AcceptsSchema, MetaChecks, RefusesSchema}
use Rattle.schema_keys.specs.declared.error.BuildError.{BuildError}
use Rattle.schema_keys.specs.declared.error.BuildError.TheVariants.{NodeLimit}
use Rattle.schema_keys.specs.DocumentSchemas.{schemas_in}
use Rattle.schema_validator.specs.Greatest.{AcceptsAsKey}
use Rattle.schema_validator.specs.Handed.{Handed, Options, parts_of}
use Rattle.schema_validator.specs.MapViews.{Entries, at_pointer}
use Rattle.schema_compiled.specs.Program.{Program}
use Rattle.schema_validator.specs.ProgramOf.{IsProgramFrom}
use Rattle.schema_compiled.specs.Solved.{HasSolver}
use Rattle.schema_validator.specs.Promised.{HasKeysUnits, MeansKey, PointsFromKey, UnitsPointFromKey}
use Rattle.schema_validator.specs.Roots.{IsRootKey, RefusesKey}

-- the name in the map of a place of the document
abbrev pub name_of : Place → Text
name_of path = 35 ∷ pointer_to path

-- a refusal because of the limit: more keys are reached
abbrev pub RefusesLimit : {S K R : Type 0} → Parts S K R → Options → Key S → BuildError → Type 0
RefusesLimit w options key (NodeLimit n) = (n ≡ options.limit) × ReachesMoreThan w options.limit key
RefusesLimit w options key _ = ⊥

-- the parts, the options, and the schema
module _ {S K R C M : Type 0} (h : Handed S K R C M) (options : Options) (schema : Data) where
  abbrev parts : Bool → Parts S K R
  parts texts = parts_of h.resolver h.table h.matcher (h.words texts) options

  -- ---- what the map holds

  -- an object or boolean of the document that compiles by itself has this name
  abbrev pub IsNameOfCompiled : Text → Type 0
  IsNameOfCompiled name = (texts : Bool) (root : Key S) → IsRootKey (parts texts) schema root → (path : Place) × (name ≡ name_of path) × IsCompiled (parts texts) root path

  -- the map holds exactly the names of what compiles
  abbrev pub HoldsCompiled : Entries (Program C M) → Type 0
  HoldsCompiled es = (name : Text) → IsTrue (is_some (at_pointer es name)) ↔ IsNameOfCompiled name

  -- a fact about each validator of the map and the key of the place that has its name
  abbrev pub OfEach : Entries (Program C M) → (Key S → Program C M → Type 0) → Type 0
  OfEach es fact = (texts : Bool) (root : Key S) → IsRootKey (parts texts) schema root → (name : Text) (p : Program C M) → at_pointer es name ≡ Some p
      → (path : Place) × (c : IsCompiled (parts texts) root path) × (name ≡ name_of path) × fact c.key p

  -- it means the plain meaning of this key, if no chain of references returns
  abbrev pub EachMeansPlainly : Entries (Program C M) → Type 0
  EachMeansPlainly es = OfEach es (λ key p. MeansKey h.resolver h.table h.matcher h.words options key h.shape h.is_whole h.matching p)

  -- it has the units of this plain meaning
  abbrev pub EachHasPlainUnits : Entries (Program C M) → Type 0
  EachHasPlainUnits es = OfEach es (λ key p. HasKeysUnits h.resolver h.table h.matcher h.words options key h.shape h.is_whole h.matching p)

  -- each error of its nodes points at a keyword that its evaluation path leads to from this key,
  -- and at a value inside the instance
  abbrev pub EachPointsPlainly : Entries (Program C M) → Type 0
  EachPointsPlainly es = OfEach es (λ key p. PointsFromKey h.resolver h.table h.matcher h.words options key h.shape h.matching p)

  -- so does each unit of its nodes that has an error of its own
  abbrev pub EachsUnitsPoint : Entries (Program C M) → Type 0
  EachsUnitsPoint es = OfEach es (λ key p. UnitsPointFromKey h.resolver h.table h.matcher h.words options key h.shape h.matching p)

  -- if each keyword of what this key reaches is monotone, its nodes accept an instance exactly if
  -- the largest set of targets and places does
  abbrev pub EachAcceptsGreatest : Entries (Program C M) → Type 0
  EachAcceptsGreatest es = OfEach es (λ key p. AcceptsAsKey h options key p)

  -- it has a solver
  abbrev pub EachHasSolver : Entries (Program C M) → Type 0
  EachHasSolver es = OfEach es (λ key p. HasSolver p)

  -- its nodes correspond one to one to the keys that this key reaches, which are no more than the
  -- limit; its draft is the root's, and its matcher answers as the one of the parts
  abbrev pub EachIsCompiledFrom : Entries (Program C M) → Type 0
  EachIsCompiledFrom es = OfEach es (λ key p. (length p.nodes ≤ options.limit) × IsProgramFrom h.resolver h.table h.matcher options options.nested schema h.shape h.matching key p)

  -- that matcher says that it finishes every match exactly if the one of the parts does
  abbrev pub EachFinishesAlike : Entries (Program C M) → Type 0
  EachFinishesAlike es = OfEach es (λ key p. h.finishing p.matcher ≡ h.finishes)

  -- all of this, of a validator and the key that it is compiled from
  pub record IsValidatorOf (key : Key S) (p : Program C M) : Type 0 where
    pub means : MeansKey h.resolver h.table h.matcher h.words options key h.shape h.is_whole h.matching p
    pub units : HasKeysUnits h.resolver h.table h.matcher h.words options key h.shape h.is_whole h.matching p
    pub points : PointsFromKey h.resolver h.table h.matcher h.words options key h.shape h.matching p
    pub units_point : UnitsPointFromKey h.resolver h.table h.matcher h.words options key h.shape h.matching p
    pub greatest : AcceptsAsKey h options key p
    pub solver : HasSolver p
    pub within : length p.nodes ≤ options.limit
    pub program : IsProgramFrom h.resolver h.table h.matcher options options.nested schema h.shape h.matching key p
    pub finishing : h.finishing p.matcher ≡ h.finishes

  -- each object or boolean of the document that compiles has a validator of its own key under its
  -- own name: no two places have one name
  abbrev pub HoldsEach : Entries (Program C M) → Type 0
  HoldsEach es = (texts : Bool) (root : Key S) → IsRootKey (parts texts) schema root → (path : Place) (c : IsCompiled (parts texts) root path)
      → (p : Program C M) × (at_pointer es (name_of path) ≡ Some p) × IsValidatorOf c.key p

  -- ---- when there is a map

  -- the root has one key, whose vocabularies are declared, and each document of the schema is
  -- accepted by its draft's meta validator, whatever the options say
  pub record MapBuilds (refuses : MetaChecks) (texts : Bool) : Type 0 where
    pub root : Key S
    pub is_root : IsRootKey (parts texts) schema root
    pub alone : (other : Key S) → IsRootKey (parts texts) schema other → other ≡ root
    pub declared : flat_map (undeclared (parts texts)) root.target.vocabularies ≡ []
    pub accepted : AcceptsSchema h.resolver refuses root.target.draft root.target.place

  abbrev pub MapIsBuilt : MetaChecks → Type 0
  MapIsBuilt refuses = (texts : Bool) → MapBuilds refuses texts

  -- why there is no map: the root has no key, or its vocabularies are not declared, or a document
  -- is refused, or an object or boolean of the document reaches by itself more keys than the limit;
  -- lack of memory says nothing
  pub data Refusal (refuses : MetaChecks) (texts : Bool) (e : BuildError) : Type 0 where
    no_root : RefusesKey (parts texts) schema e → Refusal refuses texts e
    not_declared : (root : Key S) → IsRootKey (parts texts) schema root → RefusesVocabularies (parts texts) root e → Refusal refuses texts e
    not_accepted : (root : Key S) → IsRootKey (parts texts) schema root → RefusesSchema h.resolver refuses root.target.draft root.target.place e → Refusal refuses texts e
    past_limit : (root : Key S) (document : Data) (path : Place) (key : Key S) → IsRootKey (parts texts) schema root → h.resolver.value root.target.place ≡ Some document → In (schemas_in [] document) path
        → entry_key (parts texts) root path ≡ Some key → RefusesLimit (parts texts) options key e → Refusal refuses texts e

  abbrev pub MapRefused : MetaChecks → BuildError → Type 0
  MapRefused refuses e = (texts : Bool) → Refusal refuses texts e
