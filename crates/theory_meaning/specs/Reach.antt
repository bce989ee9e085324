-- The keys that a schema reaches: its root's, and all that the makers of a reached key request.
use Rattle.std.specs.List.{list_any}
use Rattle.std.specs.Prelude.{All, AllPairs, Contains, List, None, Option, Some, [], codes, false, filter_map, if◌then◌else◌, length, map, true, ℕ, ◌*◌, ◌++◌, ◌+◌, ◌<◌, ◌∷◌, ◌≡◌}
use Rattle.serde_json.specs.Data.{Data, Members, member, no_members, object, string}
use Rattle.theory_definitions.specs.Instance.{Text, member_of, places}
use Rattle.theory_definitions.specs.Drafts.{ref_stands_alone}
use Rattle.theory_definitions.specs.Making.{Making}
use Rattle.theory_definitions.specs.Parts.{Parts}
use Rattle.theory_definitions.specs.Plan.{Edge, Key, Reference, Target, is_self, making, option_list, reference_edge, reference_named, requested, same_key, same_target, schema_of, to_ref}

module _ {S K R : Type 0} (w : Parts S K R) where
  -- The edges that a maker requests.
  abbrev pub maker_edges : Key S → Text → Making K → List (Edge S)
  maker_edges k name m = filter_map (requested w k name) m.requests

  -- The edges of a reference; there are none if it leads to the object that contains it.
  abbrev pub reference_edges : Key S → Text → Reference → Data → List (Edge S)
  reference_edges k name kind (string text) = if is_self w k kind text then [] else option_list (reference_edge w k name kind text)
  reference_edges k name kind _ = []

  -- The edges of a built-in keyword or a reference.
  abbrev pub builtin_edges : Key S → Members → Text → Data → List (Edge S)
  builtin_edges k whole name value = elim (w.table.builtin k.target.draft k.target.vocabularies name)
      [ None ↦ [] | Some b ↦ elim (reference_named name) [ Some kind ↦ reference_edges k name kind value | None ↦ maker_edges k name (making w k whole false name) ] ]

  -- The edges of all these members.
  abbrev pub members_edges : Key S → Members → Members → List (Edge S)
  members_edges k whole no_members = []
  members_edges k whole (member name value rest) = elim (w.table.owns name) [ true ↦ maker_edges k name (making w k whole true name) | false ↦ builtin_edges k whole name value ] ++ members_edges k whole rest

  -- The value of a `$ref` that replaces the keywords beside it.
  abbrev pub lone_ref : Key S → Members → Option Data
  lone_ref k ms = if ref_stands_alone k.target.draft then member_of (codes "$ref") ms else None

  -- The edges that the makers of a key request.
  abbrev pub asked_edges : Key S → List (Edge S)
  asked_edges k = elim (schema_of w k) [
    | object ms ↦ elim (lone_ref k ms) [ Some value ↦ reference_edges k (codes "$ref") to_ref value | None ↦ members_edges k ms ms ]
    | _ ↦ []
  ]

  -- The keys that the makers of a key request.
  abbrev pub asked_for : Key S → List (Key S)
  asked_for k = map (λ edge. edge.key) (asked_edges k)

  -- ---- the least set of keys that contains the root's and all that its makers request

  -- The root reaches this key.
  pub data Reached (root : Key S) : Key S → Type 0 where
    at_first : Reached root root
    asked_by : {k l : Key S} → Reached root k → Contains (asked_for k) l → Reached root l

  -- The keys are not the same.
  abbrev pub different : Key S → Key S → Type 0
  different a b = same_key w a b ≡ false

  -- These are the keys that are reached, each once.
  pub record IsReach (root : Key S) (keys : List (Key S)) : Type 0 where
    pub sound : All (Reached root) keys
    pub whole : (k : Key S) → Reached root k → list_any (same_key w k) keys ≡ true
    pub once : AllPairs different keys

  -- More keys than the limit are reached.
  abbrev pub ReachesMoreThan : ℕ → Key S → Type 0
  ReachesMoreThan limit root = (keys : List (Key S)) × All (Reached root) keys × AllPairs different keys × (limit < length keys)

  -- The targets of keys, each once: keys that differ only in location, base or start have the same
  -- target.
  abbrev pub targets_of : List (Key S) → List (Target S)
  targets_of [] = []
  targets_of (k ∷ keys) = if list_any (same_target w k.target) (targets_of keys) then targets_of keys else k.target ∷ targets_of keys

  -- A depth that is sufficient if no question returns: the number of reached targets times the
  -- number of places, plus one. This is longer than any chain of questions that never comes twice
  -- to the same target at the same place.
  abbrev pub deep_enough : List (Key S) → Data → ℕ
  deep_enough keys instance = length (targets_of keys) * length (places instance) + 1
