-- The answers of a resolver of documents. (Core 2020-12, sections 8.2 and 9.1)
use Rattle.std.specs.Prelude.{IsSome, List, None, Option, Some, [], map, slice_get, ℕ, ◌≡◌, ◌∷◌}
use Rattle.serde_json.specs.View.{view}
use Rattle.serde_json.specs.declared.value.Value.{Value}
use Rattle.theory_definitions.specs.Instance.{Text}
use Rattle.theory_definitions.specs.Drafts.{Draft, Vocabularies, at_path}
use Rattle.theory_definitions.specs.Resolving.{Entrance, Resolver}
use Rattle.standard_subschemas.specs.SubschemaRules.{identifier, is_known, root_place, subschemas_of, without_fragment}
use Rattle.standard_resolver.specs.Dialects.{Reading, detected, draft_declared, reading_of}
use Rattle.standard_resolver.specs.InForce.{vocabularies_at}
use Rattle.standard_resolver.specs.ResolverDocuments.{HeldDocuments, Document, documents_of, value_in}
use Rattle.standard_subschemas.specs.DocumentUris.{resolve_uri}
use Rattle.standard_resolver.specs.DocumentResources.{Resource, Table, number_of, place_of_resource, table_for}
use Rattle.standard_resolver.specs.DocumentStates.{Point, entered, root_of, same_point}
use Rattle.standard_resolver.specs.DocumentLookups.{looked_up, looked_up_recursive}

-- the start of a run: one resource is entered
abbrev pub entrance_in : ℕ → Resource → Entrance Point
entrance_in n r = record { place = place_of_resource r; state = record { base = r.base; entered = n ∷ [] } }

abbrev pub entrance_at : List Resource → Option ℕ → Option (Entrance Point)
entrance_at resources None = None
entrance_at resources (Some n) = elim (slice_get resources n) [ None ↦ None | Some r ↦ Some (entrance_in n r) ]

abbrev pub entrance : List Resource → Text → Option (Entrance Point)
entrance resources uri = entrance_at resources (number_of (without_fragment uri) resources)

-- a resolver of documents, with the vocabularies that are in force in a state and a draft
abbrev pub resolving_of : (Point → Draft → Vocabularies) → List Document → Table → Resolver Point
resolving_of vocabularies documents table = record {
  same_state = same_point;
  value = value_in documents;
  root = entrance table.resources;
  lookup = looked_up table documents;
  lookup_recursive = looked_up_recursive table;
  in_subresource = λ s d p. entered table documents s d p (value_in documents p);
  resolve_uri = λ s reference. resolve_uri table.reading.rule s.base reference;
  base_uri = λ s. s.base;
  resource_root = root_of table;
  find_vocabularies = λ s d p. vocabularies s d;
  detect = detected table.reading;
  draft_for = draft_declared table.reading;
  id = identifier;
  subresources_of = λ d p. map (at_path p) (subschemas_of table.reading.rule d (value_in documents p));
  is_known_keyword = λ d name. is_known table.reading.rule d name;
}

-- how the documents of a resolver are read
abbrev pub reading_in : HeldDocuments → Reading
reading_in r = reading_of r.rule r.root_draft r.default_draft (documents_of r)

abbrev pub table_of : HeldDocuments → Table
table_of r = table_for (reading_in r) (documents_of r)

abbrev pub document_resolving : HeldDocuments → Resolver Point
document_resolving r = resolving_of (vocabularies_at r.vocabularies r.listed (table_of r)) (documents_of r) (table_of r)

-- the root's URI, without a fragment
abbrev pub base_of : HeldDocuments → Text
base_of r = without_fragment r.uri

-- the value at the root's place is this document
abbrev pub HasRoot : Value → HeldDocuments → Type 0
HasRoot document r = (document_resolving r).value root_place ≡ Some (view document)

-- the root document is found under its URI
abbrev pub FindsRoot : HeldDocuments → Type 0
FindsRoot r = IsSome ((document_resolving r).root (base_of r))
