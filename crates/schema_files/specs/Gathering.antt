-- The URIs of documents that are at hand, and of files that are new.
use Rattle.std.specs.Prelude.{Bool, IsSome, List, [], bytes_eq, false, flat_map, true, ⊤, ◌++◌, ◌∷◌, ◌≡◌}
use Rattle.std.specs.List.{list_any}
use Rattle.serde_json.specs.Data.{Data}
use Rattle.theory_definitions.specs.Drafts.{Draft}
use Rattle.theory_definitions.specs.Instance.{Text}
use Rattle.uri_references.specs.Normal.{normalized}
use Rattle.standard_subschemas.specs.DocumentUris.{root_base}
use Rattle.standard_subschemas.specs.SubschemaRules.{detected, without_fragment}
use Rattle.standard_subschemas.specs.declared.rules.Rule.TheVariants.{Standard}
use Rattle.schema_files.specs.FileUris.{path_of_uri}
use Rattle.schema_files.specs.References.{Reference, document_references}

-- a document that is at hand, and its URI
pub record Supplied : Type 0 where
  pub uri : Text
  pub value : Data

-- the URIs under which references find a document: its own, and that of its identifier
abbrev pub taken_by : Draft → Supplied → List Text
taken_by draft s = normalized (without_fragment s.uri) ∷ root_base Standard s.uri (detected draft s.value) s.value ∷ []

abbrev pub taken_uris : Draft → List Supplied → List Text
taken_uris draft supplied = flat_map (taken_by draft) supplied

abbrev pub is_among : Text → List Text → Bool
is_among uri uris = list_any (λ u. bytes_eq u uri) uris

-- none of the URIs is taken, and none stands twice
abbrev pub AreNew : List Text → List Text → Type 0
AreNew taken [] = ⊤
AreNew taken (uri ∷ uris) = (is_among uri taken ≡ false) × AreNew (taken ++ uri ∷ []) uris

-- the references in a document that is at hand
abbrev pub supplied_references : Draft → Supplied → List Reference
supplied_references draft s = document_references s.uri draft s.value

-- a reference to a file leads to one of these URIs
abbrev pub LeadsAmong : List Text → Reference → Type 0
LeadsAmong uris r = IsSome (path_of_uri r.uri) → is_among r.uri uris ≡ true
