-- A subschema that is compiled by itself: its key, why it has none, and why the vocabularies of its
-- root are refused.
use Rattle.std.specs.Prelude.{List, None, Option, Some, [], flat_map, option_map, slice_get, string_bytes, ◌≡◌}
use Rattle.theory_definitions.specs.Instance.{Place}
use Rattle.theory_definitions.specs.Parts.{Parts}
use Rattle.theory_definitions.specs.Plan.{Key, subschema}
use Rattle.theory_meaning.specs.Refusals.{Cause, undeclared, unsupported_vocabulary}
use Rattle.schema_keys.specs.declared.error.BuildError.{BuildError}
use Rattle.schema_keys.specs.declared.error.BuildError.TheVariants.{KeywordRefused, Lookup, MetaSchema, MissingRoot, NodeLimit, NotASchema, OutOfMemory, ReferenceNotText, UnsupportedVocabulary}

-- why a subschema has no key: the resolver refuses its state; `OutOfMemory` claims nothing
abbrev pub RefusesKeyAlone : {A : Type 0} → Option A → BuildError → Type 0
RefusesKeyAlone o (NotASchema location) = ⊥
RefusesKeyAlone o (ReferenceNotText location) = ⊥
RefusesKeyAlone o (Lookup text) = o ≡ None
RefusesKeyAlone o (KeywordRefused error) = ⊥
RefusesKeyAlone o (UnsupportedVocabulary uri) = ⊥
RefusesKeyAlone o (MetaSchema error) = ⊥
RefusesKeyAlone o (MissingRoot uri) = ⊥
RefusesKeyAlone o (NodeLimit n) = ⊥
RefusesKeyAlone o OutOfMemory = Unit {0}

-- a refusal names the first of these causes, which are undeclared vocabularies; `OutOfMemory`
-- claims nothing
abbrev pub NamesFirst : List Cause → BuildError → Type 0
NamesFirst cs (NotASchema location) = ⊥
NamesFirst cs (ReferenceNotText location) = ⊥
NamesFirst cs (Lookup text) = ⊥
NamesFirst cs (KeywordRefused error) = ⊥
NamesFirst cs (UnsupportedVocabulary uri) = slice_get cs 0 ≡ Some (unsupported_vocabulary (string_bytes uri))
NamesFirst cs (MetaSchema error) = ⊥
NamesFirst cs (MissingRoot uri) = ⊥
NamesFirst cs (NodeLimit n) = ⊥
NamesFirst cs OutOfMemory = Unit {0}

module _ {S K R : Type 0} (w : Parts S K R) where
  -- the key of the subschema at a path below a root, at the empty location
  abbrev pub key_alone : Key S → Place → Option (Key S)
  key_alone root path = option_map (λ edge. record edge.key { location = []; base = []; start = 0 }) (subschema w root path)

  -- why a root's own vocabularies are refused: the first that is not declared is named;
  -- `OutOfMemory` claims nothing
  abbrev pub RefusesVocabularies : Key S → BuildError → Type 0
  RefusesVocabularies root e = NamesFirst (flat_map (undeclared w) root.target.vocabularies) e
