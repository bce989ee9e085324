-- Targets, keys and plans: a key is a place in a schema as it is reached, and its plan says what
-- the schema there requires of an instance, by which keywords, subschemas and references. A target
-- is a key without location, base and start. Keys that differ in these alone count once, since a
-- chain returns if it comes twice to the same target at the same place. The requests of a maker end
-- at the first one that is refused, because the compiler stops there too: no key past it counts for
-- the limit. (Core 2020-12, 4.3, 8.2.3, 9.1.2 and 10; section 6 of RFC 6901)
use Rattle.std.specs.List.{list_any, starts_with}
use Rattle.std.specs.Prelude.{Bool, Err, List, None, Ok, Option, Result, Some, [], bytes_eq, codes, count_by, drop, false, if◌then◌else◌, length, nat_le, option_and_then, option_map, slice_get, suc, take, true, unwrap_or, zero, ℕ, ◌&&◌, ◌++◌, ◌-◌, ◌==◌, ◌||◌, ◌∷◌}
use Rattle.std.specs.Str.Lossy.{utf8_lossy}
use Rattle.percent_encoding.specs.Percent.{percent_decode, percent_encode_byte}
use Rattle.serde_json.specs.Data.{Data, Members, boolean, depth, member, no_members, null, object, string}
use Rattle.theory_definitions.specs.Instance.{Place, Text, member_of, same_place}
use Rattle.theory_definitions.specs.Pointer.{joined, pointer_to}
use Rattle.theory_definitions.specs.Drafts.{Draft, SchemaPlace, Vocabularies, at_path, format_assertion_vocabulary, format_vocabulary, has_vocabulary, ref_stands_alone, same_draft, same_schema_place, same_vocabularies}
use Rattle.theory_definitions.specs.Resolving.{Found}
use Rattle.theory_definitions.specs.Making.{Making, Request, a_keyword, compile, followed, nothing, refer, refused, until_refused}
use Rattle.theory_definitions.specs.Keywords.{Marked, a_child, a_reservation}
use Rattle.theory_definitions.specs.Parts.{Parts}

-- A target: the value at a place in a schema, read in a resolver state, a draft and vocabularies.
pub record Target (S : Type 0) : Type 0 where
  pub place : SchemaPlace
  pub state : S
  pub draft : Draft
  pub vocabularies : Vocabularies

-- A key: a target as it is reached, with its location, the part of the location that comes from the
-- last reference, and the length of the part that lies outside its resource.
pub record Key (S : Type 0) : Type 0 where
  pub target : Target S
  pub location : Text
  pub base : Text
  pub start : ℕ

-- The three kinds of reference: `$ref`, `$dynamicRef` and `$recursiveRef`.
pub data Reference : Type 0 where
  to_ref to_dynamic to_recursive : Reference

-- The kind of reference that a keyword's name stands for, if it is one.
abbrev pub reference_named : Text → Option Reference
reference_named name = if bytes_eq name (codes "$ref") then Some to_ref else (if bytes_eq name (codes "$dynamicRef") then Some to_dynamic else (if bytes_eq name (codes "$recursiveRef") then Some to_recursive else None))

-- The reference is a `$dynamicRef`.
abbrev pub is_dynamic : Reference → Bool
is_dynamic to_dynamic = true
is_dynamic _ = false

-- The reference is a `$recursiveRef`.
abbrev pub is_recursive_ref : Reference → Bool
is_recursive_ref to_recursive = true
is_recursive_ref _ = false

-- The text after the first `#`.
abbrev pub fragment : Text → Text
fragment [] = []
fragment (x ∷ xs) = if x == 35 then xs else fragment xs

-- The text before the first `#`.
abbrev pub without_fragment : Text → Text
without_fragment [] = []
without_fragment (x ∷ xs) = if x == 35 then [] else x ∷ without_fragment xs

-- The number of segments of a pointer.
abbrev pub segment_count : Text → ℕ
segment_count location = count_by (λ x. x == 47) location

-- The length of the first n segments of a pointer.
abbrev pub segments_length : ℕ → Text → ℕ
segments_length n [] = 0
segments_length zero (x ∷ xs) = if x == 47 then 0 else suc (segments_length zero xs)
segments_length (suc n) (x ∷ xs) = if x == 47 then suc (segments_length n xs) else suc (segments_length (suc n) xs)

-- The steps from an outer place to one below it.
abbrev pub without_prefix : Place → Place → Place
without_prefix inner outer = drop (length outer) inner

-- The place is the outer place, or lies below it.
abbrev pub lies_in : SchemaPlace → SchemaPlace → Bool
lies_in p outer = (p.document == outer.document) && same_place outer.path (take (length outer.path) p.path)

-- ---- the keywords of a plan

-- A keyword, with its maker's requests and the names that it absorbs, or a reference with its text.
pub data Form (K : Type 0) : Type 0 where
  keyword : K → List Request → List Text → Form K
  reference : Reference → Text → Form K

-- An entry of a plan: its name, its priority, whether it is a leaf, and its keyword or reference.
pub record Part (K : Type 0) : Type 0 where
  pub name : Text
  pub priority : ℕ
  pub is_leaf : Bool
  pub form : Form K

-- A plan: the schema always accepts, it never accepts, or it accepts if all these parts hold.
pub data Plan (K : Type 0) : Type 0 where
  always : Plan K
  never : Plan K
  these : List (Part K) → Plan K

-- The sorted parts with one more at its place, before those of the same priority.
abbrev pub placed : {K : Type 0} → Part K → List (Part K) → List (Part K)
placed x [] = x ∷ []
placed x (y ∷ ys) = if nat_le x.priority y.priority then x ∷ y ∷ ys else y ∷ placed x ys

-- The parts sorted by priority. Parts of the same priority stay in order.
abbrev pub sorted : {K : Type 0} → List (Part K) → List (Part K)
sorted [] = []
sorted (x ∷ xs) = placed x (sorted xs)

-- The value of a result that is no error.
abbrev pub ok_of : {A E : Type 0} → Result A E → Option A
ok_of (Ok a) = Some a
ok_of (Err e) = None

-- The result is an error.
abbrev pub fails : {A E : Type 0} → Result A E → Bool
fails (Ok a) = false
fails (Err e) = true

-- An edge to a child: its key, what it adds to the evaluation path, whether it is a reference, and
-- whether that is a `$recursiveRef`.
pub record Edge (S : Type 0) : Type 0 where
  pub key : Key S
  pub path : Text
  pub is_reference : Bool
  pub is_recursive : Bool

-- The byte occurs in a URI's fragment as it is; any other byte is percent-encoded.
abbrev pub stands_plainly : ℕ → Bool
stands_plainly x = (nat_le 65 x && nat_le x 90) || (nat_le 97 x && nat_le x 122) || (nat_le 48 x && nat_le x 57) || list_any (λ y. x == y) (codes "-._~!$&'()*+,;=:@/")

-- A text as it is written in a URI's fragment.
abbrev pub encoded : Text → Text
encoded [] = []
encoded (x ∷ xs) = (if stands_plainly x then x ∷ [] else percent_encode_byte x) ++ encoded xs

-- The list of at most one element.
abbrev pub option_list : {A : Type 0} → Option A → List A
option_list None = []
option_list (Some a) = a ∷ []

module _ {S K R : Type 0} (w : Parts S K R) where
  -- The value at a place, or `null` if there is none.
  abbrev pub schema_at : SchemaPlace → Data
  schema_at p = unwrap_or (w.resolver.value p) null

  -- The schema of a key.
  abbrev pub schema_of : Key S → Data
  schema_of k = schema_at k.target.place

  -- The absolute form of a location: the URI of the key's resource, with the rest of the location
  -- from `start` on as its fragment. There is none if the base has the scheme `json-schema`.
  abbrev pub absolute_of : Key S → Text → Option Text
  absolute_of k location = if starts_with (λ x y. x == y) (w.resolver.base_uri k.target.state) (codes "json-schema:") then None
      else Some (without_fragment (w.resolver.base_uri k.target.state) ++ (35 ∷ encoded (drop k.start location)))

  -- ---- children: the subschemas and the references of a key's keywords

  -- The key of the subschema at a path below.
  abbrev pub inside : Key S → Place → S → Draft → Key S
  inside k path state draft = record {
    target = record {
      place = at_path k.target.place path;
      state = state;
      draft = draft;
      vocabularies = if same_draft draft k.target.draft then k.target.vocabularies else w.resolver.find_vocabularies state draft (at_path k.target.place path);
    };
    location = k.location ++ pointer_to path;
    base = k.base;
    start = elim (w.resolver.id draft (schema_at (at_path k.target.place path))) [ None ↦ k.start | Some id ↦ length (k.location ++ pointer_to path) ];
  }

  -- The edge to the subschema at a path below, if the resolver can enter it.
  abbrev pub subschema : Key S → Place → Option (Edge S)
  subschema k path = let place = at_path k.target.place path in
      let draft = w.resolver.detect k.target.draft (schema_at place) in
      option_map (λ state. record { key = inside k path state draft; path = pointer_to path; is_reference = false; is_recursive = false }) (ok_of (w.resolver.in_subresource k.target.state draft place))

  -- The URI that a reference's text stands for, in the resolver state of the object that contains
  -- it. An empty text is read as `#`.
  abbrev pub resolved : Key S → Text → Result Text Text
  resolved k [] = w.resolver.resolve_uri k.target.state (codes "#")
  resolved k (x ∷ text) = w.resolver.resolve_uri k.target.state (x ∷ text)

  -- The result of looking up a reference's text in the resolver. An empty text is read as `#`.
  abbrev pub looked_up : Key S → Bool → Text → Result (Found S) Text
  looked_up k dynamic [] = w.resolver.lookup k.target.state (codes "#") dynamic
  looked_up k dynamic (x ∷ text) = w.resolver.lookup k.target.state (x ∷ text) dynamic

  -- The target of a reference's text; there is none if the text stands for no URI.
  abbrev pub found : Key S → Reference → Text → Result (Found S) Text
  found k to_recursive text = w.resolver.lookup_recursive k.target.state
  found k kind text = elim (resolved k text) [ Err refusal ↦ Err refusal | Ok uri ↦ looked_up k (is_dynamic kind) text ]

  -- The fragment of the URI that a reference's text stands for.
  abbrev pub fragment_meant : Key S → Text → Text
  fragment_meant k text = fragment (unwrap_or (ok_of (resolved k text)) [])

  -- The pointer in a fragment, or, if the fragment is a name, the path of the target below the root
  -- of its resource.
  abbrev pub location_by : Found S → Text → Text
  location_by f [] = []
  location_by f (x ∷ xs) = if x == 47 then utf8_lossy (percent_decode (x ∷ xs)) else pointer_to (without_prefix f.place.path (w.resolver.resource_root f.state).path)

  -- ---- how much of a pointer lies outside the target's resource

  -- How far the root of the target's resource lies below the place from which a pointer with this
  -- many segments starts, if the target lies in that resource, and 0 if not.
  abbrev pub resource_depth : Found S → ℕ → ℕ
  resource_depth f segments = let root = w.resolver.resource_root f.state in
      if lies_in f.place root then length root.path - (length f.place.path - segments) else 0

  -- The length of the part of the pointer up to that root.
  abbrev pub start_of : Found S → Text → ℕ
  start_of f location = segments_length (resource_depth f (segment_count location)) location

  -- The same for a fragment. The location of a name lies in the innermost resource, so for a name
  -- this is 0.
  abbrev pub start_by : Found S → Text → ℕ
  start_by f [] = 0
  start_by f (x ∷ xs) = if x == 47 then start_of f (location_by f (x ∷ xs)) else 0

  -- The key of a target at this location.
  abbrev pub referred_at : Found S → Text → ℕ → Key S
  referred_at f location start = record {
    target = record { place = f.place; state = f.state; draft = f.draft; vocabularies = w.resolver.find_vocabularies f.state f.draft f.place };
    location = location;
    base = location;
    start = start;
  }

  -- The key of a reference's target, as this reference reaches it.
  abbrev pub referred : Key S → Found S → Reference → Text → Key S
  referred k f to_recursive text = referred_at f [] 0
  referred k f kind text = referred_at f (location_by f (fragment_meant k text)) (start_by f (fragment_meant k text))

  -- The edge of a reference under the keyword `name`.
  abbrev pub reference_edge : Key S → Text → Reference → Text → Option (Edge S)
  reference_edge k name kind text = option_map (λ f. record { key = referred k f kind text; path = joined [] name; is_reference = true; is_recursive = is_recursive_ref kind }) (ok_of (found k kind text))

  -- A reference to the very object that contains it is no keyword, unless it is a `$recursiveRef`.
  abbrev pub is_self : Key S → Reference → Text → Bool
  is_self k to_recursive text = false
  is_self k kind text = unwrap_or (option_map (λ f. same_schema_place f.place k.target.place) (ok_of (found k kind text))) false

  -- The edge of a request; there is none for a reference to the object that contains it.
  abbrev pub requested : Key S → Text → Request → Option (Edge S)
  requested k name (compile path) = subschema k path
  requested k name (refer text) = if is_self k to_ref text then None else reference_edge k name to_ref text

  -- A request is refused if the resolver finds nothing for it.
  abbrev pub is_refused : Key S → Request → Bool
  is_refused k (compile path) = let place = at_path k.target.place path in
      fails (w.resolver.in_subresource k.target.state (w.resolver.detect k.target.draft (schema_at place)) place)
  is_refused k (refer text) = fails (found k to_ref text)

  -- The edge to the child that a keyword names by the number of its request.
  abbrev pub child : Key S → Text → List Request → ℕ → Option (Edge S)
  child k name requests i = option_and_then (requested k name) (slice_get requests i)

  -- ---- the plan

  -- Whether formats are checked: as the option says, or else in drafts 4 to 7 and with the
  -- vocabularies that require it.
  abbrev pub checks_formats : Key S → Bool
  checks_formats k = unwrap_or w.formats (ref_stands_alone k.target.draft || has_vocabulary k.target.vocabularies format_assertion_vocabulary || has_vocabulary k.target.vocabularies format_vocabulary)

  -- The requests of a maker by its script, and how it ends, if no request is refused.
  abbrev pub scripted : Key S → Members → Bool → Text → Making K
  scripted k whole custom name = followed (is_self k to_ref) (w.table.script custom name whole k.target.draft k.target.vocabularies (checks_formats k))

  -- The requests of a maker up to the first one that is refused, and how it ends.
  abbrev pub making : Key S → Members → Bool → Text → Making K
  making k whole custom name = until_refused (is_refused k) (scripted k whole custom name).requests (scripted k whole custom name).ends

  -- The part of a plan that a maker's keyword becomes, if it makes one.
  abbrev pub part_made : Text → ℕ → Bool → Making K → Option (Part K)
  part_made name priority leaf m = elim m.ends [ a_keyword meaning absorbed ↦ Some (record { name = name; priority = priority; is_leaf = leaf; form = keyword meaning m.requests absorbed }) | nothing ↦ None | refused told error ↦ None ]

  -- The part of a plan that a reference becomes. A reference to the object that contains it becomes
  -- none.
  abbrev pub reference_part : Key S → Text → ℕ → Reference → Data → Option (Part K)
  reference_part k name priority kind (string text) = if is_self k kind text then None else Some (record { name = name; priority = priority; is_leaf = false; form = reference kind text })
  reference_part k name priority kind _ = None

  -- The part of a plan that a built-in keyword or a reference becomes. The table decides which
  -- names are keywords; the engine itself handles references.
  abbrev pub builtin_part : Key S → Members → Text → Data → Option (Part K)
  builtin_part k whole name value = elim (w.table.builtin k.target.draft k.target.vocabularies name) [
    | None ↦ None
    | Some b ↦ elim (reference_named name) [
      | Some kind ↦ reference_part k name b.priority kind value
      | None ↦ part_made name b.priority b.is_leaf (making k whole false name)
    ]
  ]

  -- The part of a plan that a member becomes. A keyword of the table's own has priority 80.
  abbrev pub part : Key S → Members → Text → Data → Option (Part K)
  part k whole name value = elim (w.table.owns name) [
    | true ↦ part_made name 80 false (making k whole true name)
    | false ↦ builtin_part k whole name value
  ]

  -- The parts of the members in the order of their names.
  abbrev pub parts : Key S → Members → Members → List (Part K)
  parts k whole no_members = []
  parts k whole (member name value rest) = option_list (part k whole name value) ++ parts k whole rest

  -- The plan of a `$ref` that replaces the keywords beside it.
  abbrev pub plan_alone : Option (Part K) → Plan K
  plan_alone None = always
  plan_alone (Some p) = these (p ∷ [])

  -- The plan of a key whose schema is this value.
  abbrev pub plan_of : Key S → Data → Plan K
  plan_of k (boolean true) = always
  plan_of k (boolean false) = never
  plan_of k (object ms) = elim (if ref_stands_alone k.target.draft then member_of (codes "$ref") ms else None) [
    | Some value ↦ plan_alone (reference_part k (codes "$ref") 70 to_ref value)
    | None ↦ these (sorted (parts k ms ms))
  ]
  plan_of k _ = always

  -- The plan of a key.
  abbrev pub plan : Key S → Plan K
  plan k = plan_of k (schema_of k)

  -- A bound on how deep subschemas nest.
  abbrev pub height : Key S → ℕ
  height k = suc (depth (schema_of k))

  -- ---- equality of keys

  -- The same place, resolver state, draft and vocabularies.
  abbrev pub same_target : Target S → Target S → Bool
  same_target a b = same_schema_place a.place b.place && w.resolver.same_state a.state b.state && same_draft a.draft b.draft && same_vocabularies a.vocabularies b.vocabularies

  -- The same target, location, base and start.
  abbrev pub same_key : Key S → Key S → Bool
  same_key a b = same_target a.target b.target && bytes_eq a.location b.location && bytes_eq a.base b.base && (a.start == b.start)

  -- Both edges exist and have the same key.
  abbrev pub same_edge_key : Option (Edge S) → Option (Edge S) → Bool
  same_edge_key (Some a) (Some b) = same_key a.key b.key
  same_edge_key _ _ = false

  -- Two marks of a keyword have the same key: two children if their keys are the same, and two
  -- reservations if they are the same one.
  abbrev pub same_child : Key S → Text → List Request → Marked → Marked → Bool
  same_child k name requests (a_child i) (a_child j) = (i == j) || same_edge_key (child k name requests i) (child k name requests j)
  same_child k name requests (a_reservation i) (a_reservation j) = i == j
  same_child k name requests _ _ = false
