-- The schema at a context: its key, and what the definitions say of it, given the resolver's
-- results.
use Rattle.std.specs.Prelude.{Bool, List, None, Option, Result, Some, String, [], codes, false, if◌then◌else◌, is_some, string_bytes, unwrap_or, ℕ, ◌||◌, ◌∷◌, ◌≡◌}
use Rattle.std.proofs.Common.{Bor}
use Rattle.std.specs.declared.alloc.Global.{Global}
use Rattle.serde_json.specs.Data.{Data, object}
use Rattle.serde_json.specs.View.{members_view}
use Rattle.serde_json.specs.declared.value.Value.{Value}
use Rattle.theory_definitions.specs.Instance.{Place, Text, member_of}
use Rattle.theory_definitions.specs.Pointer.{joined, pointer_to}
use Rattle.theory_definitions.specs.Drafts.{Draft, SchemaPlace, Vocabularies, at_path, ref_stands_alone, same_draft}
use Rattle.theory_definitions.specs.Resolving.{Found, Resolver}
use Rattle.theory_definitions.specs.Making.{compile}
use Rattle.theory_definitions.specs.Parts.{Parts}
use Rattle.theory_definitions.specs.Plan.{Key, Reference, absolute_of, found, inside, location_by, looked_up, referred_at, resolved, schema_at, start_by, subschema, without_prefix}
use Rattle.theory_meaning.specs.Refusals.{lookup_causes, reference_not_text, request_causes}
use Rattle.schema_drafts.specs.KeywordViews.{draft_of}
use Rattle.schema_drafts.specs.declared.keywords.drafts.Draft as code_draft
use Rattle.schema_traits.specs.ResolverViews.{IsReadAt, found_of, place_of}
use Rattle.schema_traits.specs.declared.resolver.Resolver.{Ghosts as ResolverMembers}
use Rattle.schema_traits.specs.declared.resolver.Target.{Target}
use Rattle.schema_traits.specs.declared.schema_place.SchemaPlace as code
use Rattle.schema_keys.specs.Alone.{key_alone}
use Rattle.schema_keys.specs.Compiling.{resolving_parts}
use Rattle.schema_keys.specs.Dialects.{asserts_formats}
use Rattle.schema_keys.specs.KeyViews.{key_of}
use Rattle.schema_keys.specs.Readings.{read_value}
use Rattle.schema_keys.specs.Referring.{IsReferredBy, LeadsBy, referred_by}
use Rattle.schema_keys.specs.Refusing.{Names}
use Rattle.schema_keys.specs.ShownBases.{shown_base}
use Rattle.schema_keys.specs.declared.context.Context.{Context}
use Rattle.schema_keys.specs.declared.error.BuildError.{BuildError}
use Rattle.schema_keys.specs.declared.key.SchemaKey.{SchemaKey}

module _ {A P S : Type 0} (c : Context A P S) where
  -- the draft of the context's schema
  abbrev pub draft_here : Draft
  draft_here = draft_of c.key.now.draft

  -- the place of the context's schema
  abbrev pub place_here : SchemaPlace
  place_here = place_of c.key.now.place

  -- the value of a `$ref` that overrides its siblings, if these members have one
  abbrev pub lone_reference : List (String Global × Value) → Option Data
  lone_reference members = if ref_stands_alone draft_here then member_of (codes "$ref") (members_view members) else None

  -- whether formats are validated: as the option says; if it is not set, as the draft and the
  -- vocabularies say
  abbrev pub validates_formats : Bool
  validates_formats = unwrap_or c.options.now.formats (ref_stands_alone draft_here || asserts_formats c.key.now.vocabularies)

  -- the place lies at this path below the context's schema
  abbrev pub LiesBelow : Place → code.SchemaPlace → Type 0
  LiesBelow path place = place_of place ≡ at_path place_here path

  -- a refusal says that the schema's reference with this name is no string; `OutOfMemory` claims
  -- nothing
  abbrev pub RefusesText : String Global → BuildError → Type 0
  RefusesText name = Names (reference_not_text (joined c.key.now.location (string_bytes name)) ∷ [])

module _ {A P S : Type 0} (r : ResolverMembers A P S) (c : Context A P S) where
  -- the results of the context's resolver, and the same as parts
  abbrev pub resolver_here : Resolver S
  resolver_here = r.resolving c.resolver.now

  abbrev pub parts_here : Parts S (Unit {0}) (Unit {0})
  parts_here = resolving_parts resolver_here

  -- the draft of a value in a schema of this draft
  abbrev pub detected_here : code_draft.Draft → Option (Bor Value) → Draft
  detected_here draft value = resolver_here.detect (draft_of draft) (read_value value)

  -- whether a value has an identifier in this draft
  abbrev pub has_identifier_here : code_draft.Draft → Option (Bor Value) → Bool
  has_identifier_here draft value = is_some (resolver_here.id (draft_of draft) (read_value value))

  -- this is the value that the resolver has at the place
  abbrev pub IsReadHere : code.SchemaPlace → Option (Bor Value) → Type 0
  IsReadHere place value = IsReadAt resolver_here place value

  -- the key of the context's schema
  abbrev pub key_here : Key S
  key_here = key_of r.point c.key.now

  -- the context's schema is an object with these members
  abbrev pub HasMembers : List (String Global × Value) → Type 0
  HasMembers members = resolver_here.value (place_here c) ≡ Some (object (members_view members))

  -- the URI of absolute locations in the schema's resource
  abbrev pub base_here : Option Text
  base_here = shown_base parts_here key_here

  -- the absolute form of a location in the schema's resource
  abbrev pub absolute_here : Text → Option Text
  absolute_here location = absolute_of parts_here key_here location

  -- ---- references

  -- the URI that a reference's text resolves to
  abbrev pub resolves : Text → Result Text Text
  resolves text = resolved parts_here key_here text

  -- the target of a reference's text
  abbrev pub finds : Reference → Text → Result (Found S) Text
  finds kind text = found parts_here key_here kind text

  -- the resolver's result for a text
  abbrev pub looks_up : Bool → Text → Result (Found S) Text
  looks_up dynamic text = looked_up parts_here key_here dynamic text

  -- the resolver's result for a recursive reference
  abbrev pub looks_up_recursive : Result (Found S) Text
  looks_up_recursive = resolver_here.lookup_recursive (r.point c.key.now.state)

  -- the targets of a reference are reached by this URI
  abbrev pub RefersBy : Reference → Text → String Global → Type 0
  RefersBy kind text uri = IsReferredBy parts_here key_here kind text (string_bytes uri)

  -- a refusal names why a reference has no target
  abbrev pub RefusesReference : Reference → Text → BuildError → Type 0
  RefusesReference kind text = Names (lookup_causes parts_here (finds kind text))

  -- a reference leads to this key; to none if it is skipped
  abbrev pub LeadsTo : Reference → Text → Option (SchemaKey P) → Type 0
  LeadsTo kind text o = LeadsBy parts_here r.point key_here kind text o

  -- the path of a target below the root of its resource
  abbrev pub path_in_resource : Target P → Place
  path_in_resource target = without_prefix target.place.path (resolver_here.resource_root (r.point target.state)).path

  -- the location of a target that a fragment leads to
  abbrev pub target_location : Target P → Text → Text
  target_location target fragment = location_by parts_here (found_of r.point target) fragment

  -- how much of that location lies outside the target's resource
  abbrev pub target_start : Target P → Text → ℕ
  target_start target fragment = start_by parts_here (found_of r.point target) fragment

  -- the key of a target that a URI was resolved to
  abbrev pub target_key : Target P → Text → Key S
  target_key target uri = referred_by parts_here (found_of r.point target) uri

  -- the key of a target at a location, with this much of it outside its resource
  abbrev pub target_key_at : Target P → Text → ℕ → Key S
  target_key_at target location start = referred_at parts_here (found_of r.point target) location start

  -- ---- subschemas

  -- the state inside a schema at a place, in a draft
  abbrev pub enters : Draft → SchemaPlace → Result S Text
  enters draft place = resolver_here.in_subresource (r.point c.key.now.state) draft place

  -- the vocabularies in force at a target inside its schema
  abbrev pub vocabularies_at : Target P → Vocabularies
  vocabularies_at t = if same_draft (draft_of t.draft) (draft_here c) then c.key.now.vocabularies
      else resolver_here.find_vocabularies (r.point t.state) (draft_of t.draft) (place_of t.place)

  -- the schema at a target has an identifier
  abbrev pub is_identified_at : Target P → Bool
  is_identified_at t = is_some (resolver_here.id (draft_of t.draft) (schema_at parts_here (place_of t.place)))

  -- the key of the subschema at a path, with the state and the draft of a target
  abbrev pub key_inside : Place → Target P → Key S
  key_inside path t = inside parts_here key_here path (r.point t.state) (draft_of t.draft)

  -- the key is that of the subschema at a path
  abbrev pub IsSubschemaKey : Place → SchemaKey P → Type 0
  IsSubschemaKey path key = subschema parts_here key_here path ≡ Some (record { key = key_of r.point key; path = pointer_to path; is_reference = false; is_recursive = false })

  -- the key of the subschema at a path, when it is compiled by itself
  abbrev pub key_by_itself : Place → Option (Key S)
  key_by_itself path = key_alone parts_here key_here path

  -- a refusal names why there is no subschema at a path
  abbrev pub RefusesSubschema : Place → BuildError → Type 0
  RefusesSubschema path = Names (request_causes parts_here key_here (compile path))
