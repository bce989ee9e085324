-- The states, documents and schemas of the code, as values of the definitions.
use Rattle.std.specs.Prelude.{List, flat_map, map, string_bytes, ◌++◌}
use Rattle.std.specs.Rc.{rc_str_bytes}
use Rattle.serde_json.specs.View.{view}
use Rattle.serde_json.specs.declared.value.Value.{Value}
use Rattle.theory_definitions.specs.Instance.{Place, Text}
use Rattle.standard_subschemas.specs.FoundViews.{path_of}
use Rattle.standard_subschemas.specs.declared.below.FoundSchema.{FoundSchema}
use Rattle.standard_resolver.specs.declared.resolver.DocumentState.{DocumentState}
use Rattle.standard_resolver.specs.declared.documents as code
use Rattle.standard_resolver.specs.declared.walk as walk
use Rattle.standard_resolver.specs.ResolverDocuments.{Document, GivenDocument, documents_from}
use Rattle.standard_resolver.specs.DocumentResources.{Visited}
use Rattle.standard_resolver.specs.DocumentStates.{Point}
use Rattle.standard_resolver.specs.DialectViews.{dialect_of}

abbrev pub point_of : DocumentState → Point
point_of s = record { base = rc_str_bytes s.base; entered = s.entered.value.items }

abbrev pub given_of : code.Document.Document → GivenDocument
given_of d = record { uri = string_bytes d.uri; value = d.value.now }

abbrev pub held : code.Documents.Documents → List Document
held d = documents_from (string_bytes d.uri) d.root.now (map given_of d.others.items)

abbrev pub visited_of : walk.Visited.Visited → Visited
visited_of v = record { path = v.path; base = string_bytes v.base; dialect = dialect_of v.dialect; schema = view v.schema.now }

-- a document that is supplied under a URI
abbrev pub document_under : Text → Value → Document
document_under uri value = record { uri = uri; value = view value }

-- a path, continued from subschema to subschema
abbrev pub path_over : Place → List FoundSchema → Place
path_over path way = path ++ flat_map path_of way
