-- Facts about a schema's root, by the resolver, the options and the schema of the code; and about
-- the check of its documents.
use Rattle.std.specs.Prelude.{Ok, true, ◌≡◌}
use Rattle.serde_json.specs.View.{view}
use Rattle.serde_json.specs.declared.value.Value.{Value}
use Rattle.theory_definitions.specs.Instance.{Text}
use Rattle.theory_definitions.specs.Plan.{Key}
use Rattle.theory_definitions.specs.Resolving.{Resolver}
use Rattle.theory_meaning.specs.Root.{base_of, key_at, root_draft}
use Rattle.schema_drafts.specs.KeywordViews.{draft_of}
use Rattle.schema_drafts.specs.declared.keywords.drafts.Draft.{Draft}
use Rattle.schema_traits.specs.ResolverViews.{place_of}
use Rattle.schema_traits.specs.declared.resolver.Resolver.{Ghosts as ResolverMembers}
use Rattle.schema_traits.specs.declared.schema_place.SchemaPlace.{SchemaPlace}
use Rattle.schema_keys.specs.Checking.{AcceptsSchema, MetaChecks, RefusesSchema}
use Rattle.schema_keys.specs.Compiling.{resolving_parts}
use Rattle.schema_keys.specs.KeyViews.{key_of}
use Rattle.schema_keys.specs.declared.error.BuildError.{BuildError}
use Rattle.schema_keys.specs.declared.key.SchemaKey.{SchemaKey}
use Rattle.schema_validator.specs.Handed.{Options}
use Rattle.schema_validator.specs.Roots.{IsRootKey, RefusesKey, root_parts}

module _ {A P S : Type 0} (r : ResolverMembers A P S) (resolver : A) (options : Options) (schema : Value) where
  -- this is the key of the root
  abbrev pub IsKeyOfRoot : SchemaKey P → Type 0
  IsKeyOfRoot key = IsRootKey (root_parts (r.resolving resolver) options) (view schema) (key_of r.point key)

  -- the root is read in this draft
  abbrev pub HasRootDraft : Draft → Type 0
  HasRootDraft draft = root_draft (root_parts (r.resolving resolver) options) (view schema) ≡ Ok (draft_of draft)

  -- the base of the root, if it is read in this draft
  abbrev pub root_base : Draft → Text
  root_base draft = base_of (root_parts (r.resolving resolver) options) (draft_of draft) (view schema)

  -- the error names why the root has no key
  abbrev pub RefusesRootKey : BuildError → Type 0
  RefusesRootKey e = RefusesKey (root_parts (r.resolving resolver) options) (view schema) e

-- the key of the place where a document begins that is entered in this state
abbrev pub key_begun : {A P S : Type 0} → ResolverMembers A P S → A → P → SchemaPlace → Draft → Key S
key_begun r resolver state place draft = key_at (resolving_parts (r.resolving resolver)) (record { place = place_of place; state = r.point state }) (draft_of draft)

module _ {P S : Type 0} (resolver : Resolver S) (refuses : MetaChecks) (options : Options) (root : SchemaKey P) where
  -- if the check is on, each document of the schema of this key is accepted
  abbrev pub PassesIfChecked : Type 0
  PassesIfChecked = options.checks ≡ true → AcceptsSchema resolver refuses (draft_of root.draft) (place_of root.place)

  -- the check is on, and one of them is refused by this error
  abbrev pub FailsIfChecked : BuildError → Type 0
  FailsIfChecked e = (options.checks ≡ true) × RefusesSchema resolver refuses (draft_of root.draft) (place_of root.place) e
