-- Facts about the build of a map, by its input.
use Rattle.std.specs.Prelude.{List, MatchOption, MatchResult, Option, Result}
use Rattle.serde_json.specs.View.{view}
use Rattle.theory_definitions.specs.Instance.{Place}
use Rattle.theory_definitions.specs.Keywords.{Answer}
use Rattle.theory_definitions.specs.Plan.{Key}
use Rattle.theory_meaning.specs.MapPointers.{entry_key}
use Rattle.schema_traits.specs.declared.keyword.Validate.{Ghosts as KeywordMembers}
use Rattle.schema_traits.specs.declared.matcher.Matcher.{Ghosts as MatcherMembers}
use Rattle.schema_traits.specs.declared.resolver.Resolver.{Ghosts as ResolverMembers}
use Rattle.schema_traits.specs.declared.table.KeywordTable.{Ghosts as TableMembers}
use Rattle.schema_keys.specs.Checking.{MetaChecks}
use Rattle.schema_keys.specs.Compiling.{resolving_parts}
use Rattle.schema_keys.specs.KeyViews.{key_of}
use Rattle.schema_keys.specs.declared.error.BuildError.{BuildError}
use Rattle.schema_keys.specs.declared.key.SchemaKey.{SchemaKey}
use Rattle.schema_compiled.specs.Program.{Program}
use Rattle.schema_validator.specs.BuildResults.{IsMapRefused}
use Rattle.schema_validator.specs.Entries.{FailsEntry, HoldsPlaces, IsCompiledAlone, IsEntry, IsLeftOut, IsMade, IsPut, RefusesAlone, RefusesEntry, RefusesOneOf}
use Rattle.schema_validator.specs.Handed.{Handed, handed}
use Rattle.schema_validator.specs.MapViews.{Entries}
use Rattle.schema_validator.specs.RootWords.{IsKeyOfRoot}
use Rattle.schema_validator.specs.declared.options.map.MapBuilding.{MapBuilding}

module _ {A T M P S : Type 0} (r : ResolverMembers A P S) (b : MapBuilding A T M P S) where
  -- the key that is used for the root
  abbrev pub root_held : Key S
  root_held = key_of r.point b.root.now

  -- it is the root's key
  abbrev pub HoldsRootKey : Type 0
  HoldsRootKey = IsKeyOfRoot r b.resolver.now b.options.now b.schema.now b.root.now

  -- the key of the schema at a path below the root, if it has one
  abbrev pub key_below : Place → Option (Key S)
  key_below path = entry_key (resolving_parts (r.resolving b.resolver.now)) root_held path

module _ {A T M P S C Maker Run K : Type 0} (r : ResolverMembers A P S) (t : TableMembers T C Maker Run K) (k : KeywordMembers C Run K) (m : MatcherMembers M) (b : MapBuilding A T M P S) where
  abbrev parts : Handed S K (Run × Answer) C M
  parts = handed r t k m b.resolver.now b.table.now b.matcher.now

  -- ---- of a key

  -- the validator is compiled from it, by itself
  abbrev pub IsCompiledOf : SchemaKey P → Program C M → Type 0
  IsCompiledOf key p = IsCompiledAlone parts b.options.now (view b.schema.now) (key_of r.point key) p

  -- it is refused
  abbrev pub RefusesToCompile : SchemaKey P → BuildError → Type 0
  RefusesToCompile key e = RefusesAlone parts b.options.now (key_of r.point key) e

  -- so it is compiled, or refused
  abbrev pub GivesCompiled : SchemaKey P → Result (Program C M) BuildError → Type 0
  GivesCompiled key result = MatchResult result (IsCompiledOf key) (RefusesToCompile key)

  -- ---- of a path below the root

  -- the validator of the schema there
  abbrev pub IsEntryAt : Place → Program C M → Type 0
  IsEntryAt path p = IsEntry parts b.options.now (view b.schema.now) (root_held r b) path p

  -- there is no key for it, or it is refused
  abbrev pub HasNoEntryAt : Place → BuildError → Type 0
  HasNoEntryAt path e = FailsEntry parts b.options.now (root_held r b) path e

  -- so there is that validator, or none
  abbrev pub GivesEntry : Place → Result (Program C M) BuildError → Type 0
  GivesEntry path result = MatchResult result (IsEntryAt path) (HasNoEntryAt path)

  -- that validator, or none if the schema there does not compile
  abbrev pub IsEntryIfCompiled : Place → Option (Program C M) → Type 0
  IsEntryIfCompiled path o = MatchOption o
      (IsLeftOut parts b.options.now (root_held r b) path)
      (IsEntry parts b.options.now (view b.schema.now) (root_held r b) path)

  -- the whole map is refused for it
  abbrev pub RefusesForEntry : Place → BuildError → Type 0
  RefusesForEntry path e = RefusesEntry parts b.options.now (root_held r b) path e

  -- so it is returned if it compiles, or the whole map is refused
  abbrev pub GivesIfCompiled : Place → Result (Option (Program C M)) BuildError → Type 0
  GivesIfCompiled path result = MatchResult result (IsEntryIfCompiled path) (RefusesForEntry path)

  -- the map has its validator too, or the schema there does not compile
  abbrev pub PutsEntry : Place → Entries (Program C M) → Entries (Program C M) → Type 0
  PutsEntry path old new = IsPut parts b.options.now (view b.schema.now) (root_held r b) path old new

  -- so it is added, or the whole map is refused
  abbrev pub GivesPut : Place → Entries (Program C M) → Entries (Program C M) → Result (Unit {0}) BuildError → Type 0
  GivesPut path old new result = MatchResult result (λ _. PutsEntry path old new) (RefusesForEntry path)

  -- ---- of several paths

  -- the map has the validators of those that compile, and no other
  abbrev pub HoldsEntries : List Place → Entries (Program C M) → Type 0
  HoldsEntries paths es = HoldsPlaces parts b.options.now (view b.schema.now) (root_held r b) paths es

  -- it is refused for one of them
  abbrev pub RefusesForOneOf : List Place → BuildError → Type 0
  RefusesForOneOf paths e = RefusesOneOf parts b.options.now (root_held r b) paths e

  -- ---- of the document

  -- the schema is accepted, the root's vocabularies are declared, and the map holds what compiles
  abbrev pub IsMadeMap : MetaChecks → Entries (Program C M) → Type 0
  IsMadeMap refuses es = IsMade parts b.options.now (view b.schema.now) (root_held r b) refuses es

  -- there is no map, and the error names why
  abbrev pub RefusesMade : MetaChecks → BuildError → Type 0
  RefusesMade refuses e = IsMapRefused parts refuses b.options.now (view b.schema.now) e
