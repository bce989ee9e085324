-- Why a schema is refused: the causes that hold for the keys that it reaches. A cause is data, with
-- what the refusal shows, so a refusal that names a cause also shows the right text. If a lookup
-- fails, the requests of the other members are followed all the same, since no build succeeds
-- there.
use Rattle.std.specs.List.{list_any}
use Rattle.std.specs.Prelude.{Bool, Contains, Err, List, None, Ok, Result, Some, [], bytes_eq, codes, false, flat_map, if◌then◌else◌, true, ◌++◌, ◌∷◌, ◌≡◌}
use Rattle.serde_json.specs.Data.{Data, Members, boolean, member, no_members, object, string}
use Rattle.theory_definitions.specs.Instance.{Text}
use Rattle.theory_definitions.specs.Pointer.{joined}
use Rattle.theory_definitions.specs.Reports.{OwnedError, told_error}
use Rattle.theory_definitions.specs.Drafts.{Vocabulary, custom_vocabulary}
use Rattle.theory_definitions.specs.Making.{Made, Making, Request, a_keyword, compile, nothing, refer, refused}
use Rattle.theory_definitions.specs.Parts.{Parts}
use Rattle.theory_definitions.specs.Plan.{Edge, Key, Reference, found, making, reference_named, schema_at, schema_of, to_ref}
use Rattle.theory_meaning.specs.Reach.{Reached, asked_edges, lone_ref}

-- Why a key cannot be compiled, with what the refusal shows. The refusal of a table also says
-- whether its text is reported.
pub data Cause : Type 0 where
  not_a_schema : Text → Cause
  reference_not_text : Text → Cause
  lookup_refuses : Text → Cause
  keyword_refused : Bool → OwnedError → Cause
  unsupported_vocabulary : Text → Cause

module _ {S K R : Type 0} (w : Parts S K R) where
  -- The causes of a failed lookup.
  abbrev pub lookup_causes : {A : Type 0} → Result A Text → List Cause
  lookup_causes (Ok a) = []
  lookup_causes (Err text) = lookup_refuses text ∷ []

  -- The causes of how a maker ends.
  abbrev pub end_causes : Made K → List Cause
  end_causes (a_keyword m absorbed) = []
  end_causes nothing = []
  end_causes (refused told error) = keyword_refused told (told_error told error) ∷ []

  -- The causes of a maker's request.
  abbrev pub request_causes : Key S → Request → List Cause
  request_causes k (compile path) = lookup_causes (w.resolver.in_subresource k.target.state (w.resolver.detect k.target.draft (schema_at w (record k.target.place { path = k.target.place.path ++ path }))) (record k.target.place { path = k.target.place.path ++ path }))
  request_causes k (refer text) = lookup_causes (found w k to_ref text)

  -- The causes of all requests of a maker, and of how it ends.
  abbrev pub maker_causes : Key S → Making K → List Cause
  maker_causes k m = flat_map (request_causes k) m.requests ++ end_causes m.ends

  -- The causes of a reference under the keyword `name`.
  abbrev pub reference_causes : Key S → Text → Reference → Data → List Cause
  reference_causes k name kind (string text) = lookup_causes (found w k kind text)
  reference_causes k name kind _ = reference_not_text (joined k.location name) ∷ []

  -- The causes of a built-in keyword or a reference.
  abbrev pub builtin_causes : Key S → Members → Text → Data → List Cause
  builtin_causes k whole name value = elim (w.table.builtin k.target.draft k.target.vocabularies name)
      [ None ↦ [] | Some b ↦ elim (reference_named name) [ Some kind ↦ reference_causes k name kind value | None ↦ maker_causes k (making w k whole false name) ] ]

  -- The causes of all these members.
  abbrev pub members_causes : Key S → Members → Members → List Cause
  members_causes k whole no_members = []
  members_causes k whole (member name value rest) = elim (w.table.owns name) [ true ↦ maker_causes k (making w k whole true name) | false ↦ builtin_causes k whole name value ] ++ members_causes k whole rest

  -- A custom vocabulary that is not declared is a cause.
  abbrev pub undeclared : Vocabulary → List Cause
  undeclared (custom_vocabulary uri) = if list_any (bytes_eq uri) w.declared then [] else unsupported_vocabulary uri ∷ []
  undeclared _ = []

  -- The causes of a key whose schema is this value. A value that is no object and no boolean is
  -- itself a cause.
  abbrev pub schema_causes : Key S → Data → List Cause
  schema_causes k (object ms) = elim (lone_ref w k ms) [ Some value ↦ reference_causes k (codes "$ref") to_ref value | None ↦ members_causes k ms ms ]
  schema_causes k (boolean b) = []
  schema_causes k _ = not_a_schema k.location ∷ []

  -- The causes of a key.
  abbrev pub causes : Key S → List Cause
  causes k = schema_causes k (schema_of w k)

  -- The root, and the targets of references.
  pub data Aimed (root : Key S) : Key S → Type 0 where
    the_root : Aimed root root
    referred_by : {k : Key S} (edge : Edge S) → Reached w root k → Contains (asked_edges w k) edge → edge.is_reference ≡ true → Aimed root edge.key

  -- A cause holds for a key that is reached. Vocabularies are required by the root and by the
  -- targets of references.
  pub data Stands (root : Key S) : Cause → Type 0 where
    stands_at : {cause : Cause} (k : Key S) → Reached w root k → Contains (causes k) cause → Stands root cause
    is_required : {cause : Cause} (k : Key S) → Aimed root k → Contains (flat_map undeclared k.target.vocabularies) cause → Stands root cause

  -- The schema compiles: no cause holds.
  abbrev pub Compiles : Key S → Type 0
  Compiles root = (cause : Cause) → ¬ (Stands root cause)
