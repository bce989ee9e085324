-- The resources in documents, and the names in them. A resource is a document, or a subschema with
-- an identifier together with its subschemas, up to those with another identifier. A name is an
-- `$anchor` or a `$dynamicAnchor`; by the standard's rule it is the fragment of an identifier in
-- drafts 4 to 7. By the standard's rule the URI that a reference means is in normal form, so a
-- document is found under its URIs in this form, and as they are written. (Core 2020-12, sections
-- 4.3.5, 8.2.1 and 8.2.2; draft-07 Core, section 8.2; RFC 3986, section 6.2.2.1)
use Rattle.std.specs.Prelude.{Bool, List, None, Option, Some, [], codes, false, flat_map, if◌then◌else◌, is_some, map, not}
use Rattle.std.specs.Prelude.{option_and_then, suc, true, unwrap_or, zero, ℕ, ◌++◌, ◌+◌, ◌||◌, ◌∷◌}
use Rattle.serde_json.specs.Data.{Data, depth}
use Rattle.serde_json.specs.Find.{as_bool, get}
use Rattle.theory_definitions.specs.Instance.{Place, Text, subject_at}
use Rattle.theory_definitions.specs.Drafts.{Draft, SchemaPlace}
use Rattle.standard_subschemas.specs.declared.rules.Rule.{Rule}
use Rattle.standard_subschemas.specs.declared.rules.Rule.TheVariants.{Narrow, Standard}
use Rattle.standard_subschemas.specs.FragmentNames.{schema_name}
use Rattle.standard_subschemas.specs.SubschemaRules.{data_of, dynamic_name, identifier, subschemas, without_fragment}
use Rattle.standard_resolver.specs.Dialects.{Dialect, Reading, dialect_inside, root_dialect}
use Rattle.standard_resolver.specs.ResolverDocuments.{Document}
use Rattle.standard_subschemas.specs.DocumentKeys.{number_in}
use Rattle.standard_subschemas.specs.DocumentUris.{base_inside, own_uri, root_base, written_uri}
use Rattle.uri_references.specs.Normal.{normalized, resolved_normally}

-- ---- the walk

-- a schema that the walk visits: its path, the base around it, its dialect, and the schema itself
pub record Visited : Type 0 where
  pub path : Place
  pub base : Text
  pub dialect : Dialect
  pub schema : Data

-- whether the walk goes into a schema: into all, or only into those without an identifier
abbrev pub goes_into : Bool → Draft → Data → Bool
goes_into everywhere draft schema = everywhere || not (is_some (identifier draft schema))

module _ (reading : Reading) where
  -- The schemas below a schema, in depth-first order. The first argument says whether subschemas
  -- with an identifier are walked too, and the second bounds the depth of nested schemas. The base
  -- is the one inside the schema.
  abbrev pub visited_if : (Place → Text → Dialect → Data → List Visited) → Place → Text → Dialect → Data → Bool → List Visited
  visited_if deeper path base dialect schema false = []
  visited_if deeper path base dialect schema true = record { path = path; base = base; dialect = dialect; schema = schema }
      ∷ deeper path (base_inside reading.rule base dialect.draft schema) dialect schema

  abbrev pub visited_at : (Place → Text → Dialect → Data → List Visited) → Bool → Place → Text → Dialect → Option Data → List Visited
  visited_at deeper everywhere path base around None = []
  visited_at deeper everywhere path base around (Some below) =
      visited_if deeper path base (dialect_inside reading around below) below
      (goes_into everywhere (dialect_inside reading around below).draft below)

  abbrev pub visited_below : Bool → ℕ → Place → Text → Dialect → Data → List Visited
  visited_below everywhere zero path base dialect schema = []
  visited_below everywhere (suc n) path base dialect schema =
      flat_map (λ p. visited_at (visited_below everywhere n) everywhere (path ++ p) base dialect (data_of (subject_at schema p)))
      (subschemas reading.rule dialect.draft schema)

  -- all schemas below a schema
  abbrev pub walked : Bool → Place → Text → Dialect → Data → List Visited
  walked everywhere path base dialect schema = visited_below everywhere (suc (depth schema)) path base dialect schema

-- ---- names

-- a name of a schema: the schema's path and draft, and whether the name is a `$dynamicAnchor`
pub record Name : Type 0 where
  pub name : Text
  pub path : Place
  pub draft : Draft
  pub dynamic : Bool

abbrev pub name_if : Option Text → Bool → Visited → List Name
name_if None dynamic v = []
name_if (Some t) dynamic v = record { name = t; path = v.path; draft = v.dialect.draft; dynamic = dynamic } ∷ []

-- the names of a schema: its name, and then its dynamic name
abbrev pub names_at : Rule → Visited → List Name
names_at rule v = name_if (schema_name rule v.dialect.draft v.schema) false v ++ name_if (dynamic_name rule v.dialect.draft v.schema) true v

-- the names of a resource that begins with a schema, in the order of the walk: the schema's own,
-- and those of the subschemas without an identifier; the base does not matter
abbrev pub names_in : Reading → Visited → List Name
names_in reading v = names_at reading.rule v ++ flat_map (names_at reading.rule) (walked reading false v.path [] v.dialect v.schema)

-- the text of a name
abbrev pub name_key : Name → Option Text
name_key x = Some x.name

-- the text of a dynamic name
abbrev pub dynamic_key : Name → Option Text
dynamic_key x = if x.dynamic then Some x.name else None

-- the number of the first name with a text
abbrev pub name_number : Text → List Name → Option ℕ
name_number t names = number_in t (map name_key names)

-- the number of the first dynamic name with a text
abbrev pub dynamic_number : Text → List Name → Option ℕ
dynamic_number t names = number_in t (map dynamic_key names)

-- ---- resources

-- a resource: its URI, the base inside it, the document and path of its root, the draft there, the
-- `$schema` in force there, whether its root has `$recursiveAnchor: true`, and its names
pub record Resource : Type 0 where
  pub uri : Text
  pub base : Text
  pub document : ℕ
  pub path : Place
  pub draft : Draft
  pub named : Option Text
  pub recursive : Bool
  pub names : List Name

abbrev pub place_of_resource : Resource → SchemaPlace
place_of_resource r = record { document = r.document; path = r.path }

-- whether `$recursiveAnchor` is true
abbrev pub is_recursive : Data → Bool
is_recursive schema = unwrap_or (option_and_then as_bool (get (codes "$recursiveAnchor") schema)) false

-- the resource that begins with a schema
abbrev pub resource_of : Reading → Text → Text → ℕ → Visited → Resource
resource_of reading uri base document v =
    record {
      uri = uri;
      base = base;
      document = document;
      path = v.path;
      draft = v.dialect.draft;
      named = v.dialect.named;
      recursive = is_recursive v.schema;
      names = names_in reading v;
    }

-- the root of the document with a number as a visited schema
abbrev pub root_visited : Reading → ℕ → Document → Visited
root_visited reading number d =
    record { path = []; base = without_fragment d.uri; dialect = root_dialect reading number d.value; schema = d.value }

-- the base inside the document with a number
abbrev pub base_in : Reading → ℕ → Document → Text
base_in reading number d = root_base reading.rule d.uri (root_dialect reading number d.value).draft d.value

-- the whole document, under the URI that it is supplied under, without a fragment
abbrev pub document_resource : Reading → ℕ → Document → Resource
document_resource reading number d =
    resource_of reading (without_fragment d.uri) (base_in reading number d) number (root_visited reading number d)

-- the whole document, under this URI in normal form, by the standard's rule only
abbrev pub normal_by : Rule → Reading → ℕ → Document → List Resource
normal_by Narrow reading number d = []
normal_by Standard reading number d = resource_of reading (normalized (without_fragment d.uri)) (base_in reading number d) number
    (root_visited reading number d) ∷ []

abbrev pub normal_resource : Reading → ℕ → Document → List Resource
normal_resource reading number d = normal_by reading.rule reading number d

-- the whole document, under each of its URIs
abbrev pub whole_document : Reading → ℕ → Document → List Resource
whole_document reading number d = document_resource reading number d ∷ normal_resource reading number d

-- the resource of a schema, if it has a URI
abbrev pub resource_if : Reading → ℕ → Visited → Option Text → List Resource
resource_if reading document v None = []
resource_if reading document v (Some uri) = resource_of reading uri uri document v ∷ []

abbrev pub uri_at : Rule → Visited → Option Text
uri_at rule v = option_and_then (own_uri rule v.base) (identifier v.dialect.draft v.schema)

abbrev pub identified : Reading → ℕ → Visited → List Resource
identified reading number v = resource_if reading number v (uri_at reading.rule v)

-- a document under its root's identifier in the case in which it is written, since a build may ask
-- for it so; by the standard's rule only
abbrev pub written_if : Reading → ℕ → Visited → Option Text → List Resource
written_if reading number root None = []
written_if reading number root (Some id) =
    resource_of reading (written_uri root.base id) (without_fragment (resolved_normally root.base id)) number root ∷ []

abbrev pub written_root : Reading → ℕ → Visited → List Resource
written_root reading number root = written_if reading number root (identifier root.dialect.draft root.schema)

-- the document under its root's identifier, by the standard's rule only
abbrev pub identified_by : Rule → Reading → ℕ → Visited → List Resource
identified_by Narrow reading number root = []
identified_by Standard reading number root = identified reading number root ++ written_root reading number root

abbrev pub identified_root : Reading → ℕ → Visited → List Resource
identified_root reading number root = identified_by reading.rule reading number root

abbrev pub embedded : Reading → ℕ → Document → List Resource
embedded reading number d = identified_root reading number (root_visited reading number d)
    ++ flat_map (identified reading number)
    (walked reading true [] (base_in reading number d) (root_dialect reading number d.value) d.value)

-- the resources that are whole documents, numbered from here on
abbrev pub document_resources : Reading → ℕ → List Document → List Resource
document_resources reading n [] = []
document_resources reading n (d ∷ ds) = whole_document reading n d ++ document_resources reading (n + 1) ds

-- the resources that are embedded in documents, numbered from here on
abbrev pub embedded_resources : Reading → ℕ → List Document → List Resource
embedded_resources reading n [] = []
embedded_resources reading n (d ∷ ds) = embedded reading n d ++ embedded_resources reading (n + 1) ds

-- ---- the resources that are found

-- the URI of a resource
abbrev pub resource_key : Resource → Option Text
resource_key r = Some r.uri

-- the number of the first resource with a URI
abbrev pub number_of : Text → List Resource → Option ℕ
number_of uri resources = number_in uri (map resource_key resources)

-- a resource is listed unless an earlier one has its URI
abbrev pub with_resource : List Resource → Resource → List Resource
with_resource listed x = if is_some (number_of x.uri listed) then listed else listed ++ x ∷ []

abbrev pub with_resources : List Resource → List Resource → List Resource
with_resources listed [] = listed
with_resources listed (x ∷ xs) = with_resources (with_resource listed x) xs

-- the resources in documents, by their numbers: whole documents, then embedded ones
abbrev pub resources_of : Reading → List Document → List Resource
resources_of reading documents = with_resources (with_resources [] (document_resources reading 0 documents))
    (embedded_resources reading 0 documents)

-- the resources, and how the documents were read
pub record Table : Type 0 where
  pub reading : Reading
  pub resources : List Resource

abbrev pub table_for : Reading → List Document → Table
table_for reading documents = record { reading = reading; resources = resources_of reading documents }
