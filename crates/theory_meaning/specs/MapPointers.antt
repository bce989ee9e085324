-- The pointers of those objects and booleans of a document that compile, each by itself. (section 6
-- of RFC 6901)
use Rattle.std.specs.Prelude.{Bool, Contains, Option, Some, [], false, flat_map, option_map, true, ◌∷◌, ◌≡◌}
use Rattle.serde_json.specs.Data.{Data, boolean, object}
use Rattle.theory_definitions.specs.Instance.{Place}
use Rattle.theory_definitions.specs.Parts.{Parts}
use Rattle.theory_definitions.specs.Plan.{Edge, Key, schema_of, subschema}
use Rattle.theory_meaning.specs.Reach.{Reached, asked_edges}
use Rattle.theory_meaning.specs.Refusals.{Cause, Compiles, causes, undeclared}

module _ {S K R : Type 0} (w : Parts S K R) where
  -- The value is an object or a boolean.
  abbrev pub is_schema : Data → Bool
  is_schema (boolean b) = true
  is_schema (object ms) = true
  is_schema _ = false

  -- The key of a place in the document: the root's own key, or that of a subschema of the root.
  abbrev pub entry_key : Key S → Place → Option (Key S)
  entry_key root [] = Some root
  entry_key root (s ∷ p) = option_map (λ edge. record edge.key { location = []; base = []; start = 0 }) (subschema w root (s ∷ p))

  -- A cause holds for a subschema that is compiled by itself. As for any subschema, vocabularies
  -- are required only by the targets of references.
  pub data StandsBelow (entry : Key S) : Cause → Type 0 where
    stands_in : {cause : Cause} (k : Key S) → Reached w entry k → Contains (causes w k) cause → StandsBelow entry cause
    required_in : {cause : Cause} {k : Key S} (edge : Edge S) → Reached w entry k → Contains (asked_edges w k) edge → edge.is_reference ≡ true
        → Contains (flat_map (undeclared w) edge.key.target.vocabularies) cause → StandsBelow entry cause

  -- The entry compiles: no cause holds for it. For the root, the causes are those of a whole
  -- schema; for any other place, they are those of a subschema.
  abbrev pub EntryCompiles : Place → Key S → Type 0
  EntryCompiles [] entry = Compiles w entry
  EntryCompiles (s ∷ p) entry = (cause : Cause) → ¬ (StandsBelow entry cause)

  -- The value at this place compiles by itself.
  pub record IsCompiled (root : Key S) (path : Place) : Type 0 where
    pub key : Key S
    pub is_key : entry_key root path ≡ Some key
    pub schema : is_schema (schema_of w key) ≡ true
    pub compiles : EntryCompiles path key
