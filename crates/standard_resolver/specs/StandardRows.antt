-- Worked rows of the standard's rule, by computation. The documents and the expected targets come
-- from the official test suite's files on references and remote references (drafts 4, 6 and 7). The
-- rows on names and identifiers, and the last rows, come from the standard. (RFC 3986, sections 5.2
-- and 6.2.2; RFC 6901, section 3; draft-07 Core, section 8.2; Core 2019-09, section 8.2; Core
-- 2020-12, sections 8.2 and 10.3 and appendix B)
use Rattle.std.specs.List.{list_all}
use Rattle.std.specs.Prelude.{Bool, Err, List, None, Ok, Result, Some, [], codes, false, is_some, map, not, true, ℕ, ◌++◌, ◌||◌, ◌≡◌, ◌∷◌}
use Rattle.serde_json.specs.Data.{array, boolean, item, member, no_items, no_members, object, string}
use Rattle.theory_definitions.specs.Instance.{Place, Text, to_item, to_member}
use Rattle.theory_definitions.specs.Drafts.{Draft, SchemaPlace, draft_2019_09, draft_2020_12, draft_4, draft_6, draft_7}
use Rattle.theory_definitions.specs.Resolving.{Found}
use Rattle.schema_drafts.specs.KeywordTable.{keyword_table, support_in}
use Rattle.standard_subschemas.specs.declared.rules.Rule.TheVariants.{Standard}
use Rattle.standard_subschemas.specs.SubschemaRules.{is_known, subschemas}
use Rattle.standard_resolver.specs.ResolverAnswers.{entrance}
use Rattle.standard_resolver.specs.Dialects.{reading_of}
use Rattle.standard_resolver.specs.ResolverDocuments.{Document, value_in}
use Rattle.standard_resolver.specs.DocumentResources.{Table, table_for}
use Rattle.standard_resolver.specs.DocumentStates.{Point, entered}
use Rattle.standard_resolver.specs.DocumentLookups.{looked_up, no_name, nothing_there}
use Rattle.standard_resolver.specs.DocumentRows.{alone, one, two, under}

abbrev pub in_these : Text → List ℕ → Point
in_these uri ns = record { base = uri; entered = ns }

abbrev pub table_in : Draft → List Document → Table
table_in draft documents = table_for (reading_of Standard None draft documents) documents

-- the target of a reference from a state
abbrev pub leads : Draft → List Document → Point → Text → Bool → Result (Found Point) Text
leads draft documents s reference dynamic = looked_up (table_in draft documents) documents s reference dynamic

-- the state inside the value at a place
abbrev pub inside : Draft → List Document → Point → SchemaPlace → Result Point Text
inside draft documents s p = entered (table_in draft documents) documents s draft p (value_in documents p)

abbrev pub found_in : Draft → ℕ → Place → Text → List ℕ → Result (Found Point) Text
found_in draft document path uri ns =
    Ok (record { place = record { document = document; path = path }; state = in_these uri ns; draft = draft })

-- ---- identifiers and references are resolved against the base

-- {"$id": "http://localhost:1234/", "items": {"$id": "folder/", "items": {"$ref":
-- "folderInteger.json"}}}, and {"type": "integer"} under
-- http://localhost:1234/folder/folderInteger.json
abbrev pub folders : List Document
folders = alone (two (codes "$id") (string (codes "http://localhost:1234/")) (codes "items")
    (two (codes "$id") (string (codes "folder/")) (codes "items") (one (codes "$ref") (string (codes "folderInteger.json")))))
    ++ under (codes "http://localhost:1234/folder/folderInteger.json") (one (codes "type") (string (codes "integer")))

-- a document is entered under the URI that it is supplied under, and its root's identifier is the
-- base inside it
abbrev pub EntranceHasTheIdentifier : Type 0
EntranceHasTheIdentifier = entrance (table_in draft_7 folders).resources (codes "json-schema:///")
    ≡ Some (record { place = record { document = 0; path = [] }; state = in_these (codes "http://localhost:1234/") (0 ∷ []) })

-- a nested identifier is resolved against the base around it
abbrev pub NestedIdentifier : Type 0
NestedIdentifier = inside draft_7 folders (in_these (codes "http://localhost:1234/") (0 ∷ []))
    (record { document = 0; path = (to_member (codes "items") ∷ []) })
    ≡ Ok (in_these (codes "http://localhost:1234/folder/") (0 ∷ 3 ∷ []))

-- a reference is resolved against the base of the resource around it
abbrev pub BaseChanges : Type 0
BaseChanges = leads draft_7 folders (in_these (codes "http://localhost:1234/folder/") (0 ∷ 3 ∷ [])) (codes "folderInteger.json") false
    ≡ found_in draft_7 1 ([]) (codes "http://localhost:1234/folder/folderInteger.json") (0 ∷ 3 ∷ 1 ∷ [])

-- a document is found under its root's identifier
abbrev pub RootIsFoundByIdentifier : Type 0
RootIsFoundByIdentifier = leads draft_7 folders (in_these (codes "http://localhost:1234/folder/") (0 ∷ 3 ∷ [])) (codes "..") false
    ≡ found_in draft_7 0 ([]) (codes "http://localhost:1234/") (0 ∷ 3 ∷ 2 ∷ [])

-- a document is found under the URI that it is supplied under
abbrev pub RootIsFoundAsHandedIn : Type 0
RootIsFoundAsHandedIn = leads draft_7 folders (in_these (codes "http://localhost:1234/") (0 ∷ [])) (codes "json-schema:///") false
    ≡ found_in draft_7 0 ([]) (codes "http://localhost:1234/") (0 ∷ [])

-- an empty fragment makes no difference
abbrev pub EmptyFragment : Type 0
EmptyFragment = leads draft_7 folders (in_these (codes "http://localhost:1234/") (0 ∷ []))
    (codes "http://localhost:1234/folder/folderInteger.json#") false
    ≡ found_in draft_7 1 ([]) (codes "http://localhost:1234/folder/folderInteger.json") (0 ∷ 1 ∷ [])

-- a reference to a missing document is refused with its URI
abbrev pub AbsentIsRefused : Type 0
AbsentIsRefused = leads draft_7 folders (in_these (codes "http://localhost:1234/folder/") (0 ∷ 3 ∷ [])) (codes "none.json") false
    ≡ Err (codes "this resolver has no resource under the URI http://localhost:1234/folder/none.json")

-- {"$id": "http://localhost:1234/scope_change_defs2.json", "definitions": {"baz": {"$id":
-- "folder/", "definitions": {"bar": {"items": {"$ref": "folderInteger.json"}}}}}}
abbrev pub scopes : List Document
scopes = alone (two (codes "$id") (string (codes "http://localhost:1234/scope_change_defs2.json")) (codes "definitions")
    (one (codes "baz") (two (codes "$id") (string (codes "folder/")) (codes "definitions")
    (one (codes "bar") (one (codes "items") (one (codes "$ref") (string (codes "folderInteger.json"))))))))

-- a pointer through a schema with an identifier changes the base, and enters the inner resource alone
abbrev pub PointerChangesTheBase : Type 0
PointerChangesTheBase = leads draft_7 scopes (in_these (codes "http://localhost:1234/scope_change_defs2.json") (0 ∷ []))
    (codes "#/definitions/baz/definitions/bar") false
    ≡ found_in draft_7 0 (to_member (codes "definitions") ∷ to_member (codes "baz") ∷ to_member (codes "definitions")
    ∷ to_member (codes "bar") ∷ []) (codes "http://localhost:1234/folder/") (0 ∷ 2 ∷ [])

-- the target and its state are the same by the inner resource's own URI
abbrev pub InnerUriLeadsThere : Type 0
InnerUriLeadsThere = leads draft_7 scopes (in_these (codes "http://localhost:1234/scope_change_defs2.json") (0 ∷ []))
    (codes "folder/#/definitions/bar") false
    ≡ found_in draft_7 0 (to_member (codes "definitions") ∷ to_member (codes "baz") ∷ to_member (codes "definitions")
    ∷ to_member (codes "bar") ∷ []) (codes "http://localhost:1234/folder/") (0 ∷ 2 ∷ [])

-- {"$id": "http://LocalHost:1234/Root", "items": {"$id": "HTTP://localhost:1234/item"}}
abbrev pub cased : List Document
cased = alone (two (codes "$id") (string (codes "http://LocalHost:1234/Root")) (codes "items")
    (one (codes "$id") (string (codes "HTTP://localhost:1234/item"))))

-- the case of schemes and hosts makes no difference
abbrev pub CaseOfHosts : Type 0
CaseOfHosts = leads draft_7 cased (in_these (codes "http://localhost:1234/Root") (0 ∷ [])) (codes "http://localHOST:1234/item") false
    ≡ found_in draft_7 0 (to_member (codes "items") ∷ []) (codes "http://localhost:1234/item") (0 ∷ 3 ∷ [])

-- the case of paths does
abbrev pub CaseOfPaths : Type 0
CaseOfPaths = leads draft_7 cased (in_these (codes "http://localhost:1234/Root") (0 ∷ [])) (codes "Item") false
    ≡ Err (codes "this resolver has no resource under the URI http://localhost:1234/Item")

-- a document that is supplied under http://LocalHost/ has an entrance there, and is found under
-- http://localhost/
abbrev pub SuppliedUriIsRead : Type 0
SuppliedUriIsRead = entrance (table_in draft_7 (under (codes "http://LocalHost/") (boolean true))).resources (codes "http://LocalHost/")
    ≡ Some (record { place = record { document = 0; path = [] }; state = in_these (codes "http://localhost/") (0 ∷ []) })

abbrev pub SuppliedUriIsFound : Type 0
SuppliedUriIsFound = leads draft_7 (under (codes "http://LocalHost/") (boolean true)) (in_these (codes "http://localhost/") (0 ∷ []))
    (codes "HTTP://LOCALHOST/") false
    ≡ found_in draft_7 0 [] (codes "http://localhost/") (0 ∷ 1 ∷ [])

-- {"$id": "http://localhost:1234/tree", "definitions": {"node": {"$id":
-- "http://localhost:1234/node", "properties": {"subtree": {"$ref": "tree"}}}}}
abbrev pub tree : List Document
tree = alone (two (codes "$id") (string (codes "http://localhost:1234/tree")) (codes "definitions")
    (one (codes "node") (two (codes "$id") (string (codes "http://localhost:1234/node")) (codes "properties")
    (one (codes "subtree") (one (codes "$ref") (string (codes "tree")))))))

-- schemas may refer to each other: here from the node to the tree
abbrev pub TreeOfNodes : Type 0
TreeOfNodes = leads draft_7 tree (in_these (codes "http://localhost:1234/node") (0 ∷ 2 ∷ [])) (codes "tree") false
    ≡ found_in draft_7 0 ([]) (codes "http://localhost:1234/tree") (0 ∷ 2 ∷ 1 ∷ [])

-- and here from the tree to the node
abbrev pub NodeOfATree : Type 0
NodeOfATree = leads draft_7 tree (in_these (codes "http://localhost:1234/tree") (0 ∷ [])) (codes "node") false
    ≡ found_in draft_7 0 (to_member (codes "definitions") ∷ to_member (codes "node") ∷ []) (codes "http://localhost:1234/node")
    (0 ∷ 2 ∷ [])

-- {"id": "http://localhost:1234/", "items": {"id": "folder/", "items": {"$ref":
-- "folderInteger.json"}}}
abbrev pub early : List Document
early = alone (two (codes "id") (string (codes "http://localhost:1234/")) (codes "items")
    (two (codes "id") (string (codes "folder/")) (codes "items") (one (codes "$ref") (string (codes "folderInteger.json")))))

-- in draft 4 the identifier is `id`
abbrev pub DraftFourHasId : Type 0
DraftFourHasId = inside draft_4 early (in_these (codes "http://localhost:1234/") (0 ∷ []))
    (record { document = 0; path = (to_member (codes "items") ∷ []) })
    ≡ Ok (in_these (codes "http://localhost:1234/folder/") (0 ∷ 2 ∷ []))

-- in draft 6 `id` is not an identifier
abbrev pub DraftSixHasNone : Type 0
DraftSixHasNone = inside draft_6 early (in_these (codes "json-schema:///") (0 ∷ []))
    (record { document = 0; path = (to_member (codes "items") ∷ []) })
    ≡ Ok (in_these (codes "json-schema:///") (0 ∷ []))

-- {"$id": "http://localhost:1234/sibling_id/base/", "allOf": [{"$id":
-- "http://localhost:1234/sibling_id/", "$ref": "foo.json"}], "definitions": {"base_foo": {"$id":
-- "foo.json", "type": "number"}, "foo": {"$id": "http://localhost:1234/sibling_id/foo.json",
-- "type": "string"}}}
abbrev pub sibling : List Document
sibling = alone (object (member (codes "$id") (string (codes "http://localhost:1234/sibling_id/base/"))
    (member (codes "allOf") (array (item (two (codes "$id") (string (codes "http://localhost:1234/sibling_id/"))
    (codes "$ref") (string (codes "foo.json"))) no_items))
    (member (codes "definitions") (two
    (codes "base_foo") (two (codes "$id") (string (codes "foo.json")) (codes "type") (string (codes "number")))
    (codes "foo") (two (codes "$id") (string (codes "http://localhost:1234/sibling_id/foo.json"))
    (codes "type") (string (codes "string"))))
    no_members))))

-- in drafts 4 to 7 an identifier beside a reference does not count
abbrev pub SiblingOfAReference : Type 0
SiblingOfAReference = inside draft_7 sibling (in_these (codes "http://localhost:1234/sibling_id/base/") (0 ∷ []))
    (record { document = 0; path = (to_member (codes "allOf") ∷ to_item 0 ∷ []) })
    ≡ Ok (in_these (codes "http://localhost:1234/sibling_id/base/") (0 ∷ []))

-- so the reference is resolved against the base around it
abbrev pub SiblingKeepsTheBase : Type 0
SiblingKeepsTheBase = leads draft_7 sibling (in_these (codes "http://localhost:1234/sibling_id/base/") (0 ∷ [])) (codes "foo.json") false
    ≡ found_in draft_7 0 (to_member (codes "definitions") ∷ to_member (codes "base_foo") ∷ [])
    (codes "http://localhost:1234/sibling_id/base/foo.json") (0 ∷ 2 ∷ [])

-- ---- names

-- {"$id": "http://localhost:1234/root", "definitions": {"A": {"$id": "nested.json", "definitions":
-- {"B": {"$id": "#foo", "type": "integer"}}}, "C": {"$id": "#bar", "definitions": {"D": true}}}}
abbrev pub independent : List Document
independent = alone (two (codes "$id") (string (codes "http://localhost:1234/root")) (codes "definitions")
    (two (codes "A") (two (codes "$id") (string (codes "nested.json")) (codes "definitions")
    (one (codes "B") (two (codes "$id") (string (codes "#foo")) (codes "type") (string (codes "integer"))))) (codes "C")
    (two (codes "$id") (string (codes "#bar")) (codes "definitions") (one (codes "D") (boolean true)))))

-- in drafts 6 and 7 an identifier that is only a fragment names its schema
abbrev pub LocationIndependent : Type 0
LocationIndependent = leads draft_7 independent (in_these (codes "http://localhost:1234/root") (0 ∷ [])) (codes "#bar") false
    ≡ found_in draft_7 0 (to_member (codes "definitions") ∷ to_member (codes "C") ∷ []) (codes "http://localhost:1234/root") (0 ∷ 1 ∷ [])

-- the name is in the resource around the schema
abbrev pub LocationIndependentNested : Type 0
LocationIndependentNested = leads draft_7 independent (in_these (codes "http://localhost:1234/root") (0 ∷ []))
    (codes "nested.json#foo") false
    ≡ found_in draft_7 0 (to_member (codes "definitions") ∷ to_member (codes "A") ∷ to_member (codes "definitions") ∷ to_member (codes "B")
    ∷ []) (codes "http://localhost:1234/nested.json") (0 ∷ 2 ∷ [])

-- a name in a fragment is percent-decoded, also that of an identifier
abbrev pub NameIsDecoded : Type 0
NameIsDecoded = leads draft_7 independent (in_these (codes "http://localhost:1234/root") (0 ∷ [])) (codes "#b%61r") false
    ≡ found_in draft_7 0 (to_member (codes "definitions") ∷ to_member (codes "C") ∷ []) (codes "http://localhost:1234/root") (0 ∷ 1 ∷ [])

-- {"definitions": {"A": {"$id": "#%62ar"}}}
abbrev pub encoded_name : List Document
encoded_name = alone (one (codes "definitions") (one (codes "A") (one (codes "$id") (string (codes "#%62ar")))))

abbrev pub IdentifierIsDecoded : Type 0
IdentifierIsDecoded = leads draft_7 encoded_name (in_these (codes "json-schema:///") (0 ∷ [])) (codes "#bar") false
    ≡ found_in draft_7 0 (to_member (codes "definitions") ∷ to_member (codes "A") ∷ []) (codes "json-schema:///") (0 ∷ [])

-- the fragment does not begin a resource
abbrev pub FragmentOpensNoResource : Type 0
FragmentOpensNoResource = leads draft_7 independent (in_these (codes "http://localhost:1234/root") (0 ∷ 1 ∷ []))
    (codes "#/definitions/C/definitions/D") false
    ≡ found_in draft_7 0 (to_member (codes "definitions") ∷ to_member (codes "C") ∷ to_member (codes "definitions") ∷ to_member (codes "D")
    ∷ []) (codes "http://localhost:1234/root") (0 ∷ 1 ∷ [])

-- in later drafts it is not a name
abbrev pub LateFragmentIsNoName : Type 0
LateFragmentIsNoName = leads draft_2019_09 independent (in_these (codes "http://localhost:1234/root") (0 ∷ 1 ∷ [])) (codes "#bar") false
    ≡ Err (no_name (codes "#bar"))

-- {"definitions": {"A": {"$id": "http://localhost:1234/bar#foo"}}}
abbrev pub both_at_once : List Document
both_at_once = alone (one (codes "definitions") (one (codes "A") (one (codes "$id") (string (codes "http://localhost:1234/bar#foo")))))

-- an identifier with a fragment is both a URI and a name
abbrev pub FragmentAndUri : Type 0
FragmentAndUri = leads draft_7 both_at_once (in_these (codes "json-schema:///") (0 ∷ [])) (codes "http://localhost:1234/bar#foo") false
    ≡ found_in draft_7 0 (to_member (codes "definitions") ∷ to_member (codes "A") ∷ []) (codes "http://localhost:1234/bar") (0 ∷ 1 ∷ [])

-- {"properties": {"a": {"$anchor": "s", "$dynamicAnchor": "d"}}}
abbrev pub anchored : List Document
anchored = alone (one (codes "properties")
    (one (codes "a") (two (codes "$anchor") (string (codes "s")) (codes "$dynamicAnchor") (string (codes "d")))))

-- `$anchor` is a name from 2019-09 on
abbrev pub AnchorIsAName : Type 0
AnchorIsAName = leads draft_2019_09 anchored (in_these (codes "json-schema:///") (0 ∷ [])) (codes "#s") false
    ≡ found_in draft_2019_09 0 (to_member (codes "properties") ∷ to_member (codes "a") ∷ []) (codes "json-schema:///") (0 ∷ [])

-- it is not a name before
abbrev pub EarlyAnchorIsNone : Type 0
EarlyAnchorIsNone = leads draft_7 anchored (in_these (codes "json-schema:///") (0 ∷ [])) (codes "#s") false
    ≡ Err (no_name (codes "#s"))

-- `$dynamicAnchor` is a name from 2020-12 on
abbrev pub DynamicAnchorIsAName : Type 0
DynamicAnchorIsAName = leads draft_2020_12 anchored (in_these (codes "json-schema:///") (0 ∷ [])) (codes "#d") false
    ≡ found_in draft_2020_12 0 (to_member (codes "properties") ∷ to_member (codes "a") ∷ []) (codes "json-schema:///") (0 ∷ [])

-- it is not a name before
abbrev pub EarlyDynamicAnchorIsNone : Type 0
EarlyDynamicAnchorIsNone = leads draft_2019_09 anchored (in_these (codes "json-schema:///") (0 ∷ [])) (codes "#d") false
    ≡ Err (no_name (codes "#d"))

-- ---- subschemas

-- {"definitions": {"e": {"enum": [{"$id": "http://localhost:1234/e"}]}}, "x": {"$id":
-- "http://localhost:1234/x"}}
abbrev pub enumerated : List Document
enumerated = alone (two (codes "definitions")
    (one (codes "e") (one (codes "enum") (array (item (one (codes "$id") (string (codes "http://localhost:1234/e"))) no_items))))
    (codes "x") (one (codes "$id") (string (codes "http://localhost:1234/x"))))

-- no value below `enum` is a schema
abbrev pub EnumHasNoSchemas : Type 0
EnumHasNoSchemas = leads draft_7 enumerated (in_these (codes "json-schema:///") (0 ∷ [])) (codes "http://localhost:1234/e") false
    ≡ Err (codes "this resolver has no resource under the URI http://localhost:1234/e")

-- no value below an unknown name is a schema
abbrev pub UnknownHasNoSchemas : Type 0
UnknownHasNoSchemas = leads draft_7 enumerated (in_these (codes "json-schema:///") (0 ∷ [])) (codes "http://localhost:1234/x") false
    ≡ Err (codes "this resolver has no resource under the URI http://localhost:1234/x")

-- pointers may lead to such values
abbrev pub PointersLeadAnywhere : Type 0
PointersLeadAnywhere = leads draft_7 enumerated (in_these (codes "json-schema:///") (0 ∷ [])) (codes "#/x") false
    ≡ found_in draft_7 0 (to_member (codes "x") ∷ []) (codes "json-schema:///") (0 ∷ [])

-- {"definitions": {"a~2": true}}
abbrev pub odd_member : List Document
odd_member = alone (one (codes "definitions") (one (codes "a~2") (boolean true)))

-- a text with `~2` is no pointer
abbrev pub OddEscapeIsNone : Type 0
OddEscapeIsNone = leads draft_7 odd_member (in_these (codes "json-schema:///") (0 ∷ [])) (codes "#/definitions/a~2") false
    ≡ Err (nothing_there (codes "#/definitions/a~2"))

abbrev pub EscapeIsOne : Type 0
EscapeIsOne = leads draft_7 odd_member (in_these (codes "json-schema:///") (0 ∷ [])) (codes "#/definitions/a~02") false
    ≡ found_in draft_7 0 (to_member (codes "definitions") ∷ to_member (codes "a~2") ∷ []) (codes "json-schema:///") (0 ∷ [])

-- `items` may be a list in drafts 4 to 2019-09; the members of `dependencies` that are schemas
-- count: {"dependencies": {"a": ["b"], "c": true}, "items": [true]}
abbrev pub ListsOfItems : Type 0
ListsOfItems = subschemas Standard draft_7
    (object (member (codes "dependencies")
    (object (member (codes "a") (array (item (string (codes "b")) no_items)) (member (codes "c") (boolean true) no_members)))
    (member (codes "items") (array (item (boolean true) no_items)) no_members)))
    ≡ (to_member (codes "dependencies") ∷ to_member (codes "c") ∷ []) ∷ (to_member (codes "items") ∷ to_item 0 ∷ []) ∷ []

-- in 2020-12 `items` is one schema
abbrev pub ItemsIsOneSchema : Type 0
ItemsIsOneSchema = subschemas Standard draft_2020_12
    (object (member (codes "dependencies")
    (object (member (codes "a") (array (item (string (codes "b")) no_items)) (member (codes "c") (boolean true) no_members)))
    (member (codes "items") (array (item (boolean true) no_items)) no_members)))
    ≡ (to_member (codes "dependencies") ∷ to_member (codes "c") ∷ []) ∷ []

-- a keyword counts in the drafts that have it. {"contentSchema": true, "if": true}
abbrev pub DraftSixHasNoIf : Type 0
DraftSixHasNoIf = subschemas Standard draft_6
    (object (member (codes "contentSchema") (boolean true) (member (codes "if") (boolean true) no_members)))
    ≡ []

-- `if` from draft 7 on
abbrev pub DraftSevenHasIf : Type 0
DraftSevenHasIf = subschemas Standard draft_7
    (object (member (codes "contentSchema") (boolean true) (member (codes "if") (boolean true) no_members)))
    ≡ (to_member (codes "if") ∷ []) ∷ []

-- `contentSchema` from 2019-09 on
abbrev pub LateHasContentSchema : Type 0
LateHasContentSchema =
    subschemas Standard draft_2019_09
    (object (member (codes "contentSchema") (boolean true) (member (codes "if") (boolean true) no_members)))
    ≡ (to_member (codes "if") ∷ []) ∷ (to_member (codes "contentSchema") ∷ []) ∷ []

-- ---- known names

-- a draft knows all keywords that it defines
abbrev pub knows_its_own : Draft → Bool
knows_its_own draft = list_all (λ r. not (is_some (support_in draft r)) || is_known Standard draft r.name) keyword_table

-- every draft does
abbrev pub KeywordsAreKnown : Type 0
KeywordsAreKnown = map knows_its_own (draft_4 ∷ draft_6 ∷ draft_7 ∷ draft_2019_09 ∷ draft_2020_12 ∷ [])
    ≡ true ∷ true ∷ true ∷ true ∷ true ∷ []

-- all rows
pub record StandardRowsHold : Type 0 where
  pub entrance : EntranceHasTheIdentifier
  pub nested : NestedIdentifier
  pub base_change : BaseChanges
  pub identifier : RootIsFoundByIdentifier
  pub handed_in : RootIsFoundAsHandedIn
  pub fragment : EmptyFragment
  pub absent : AbsentIsRefused
  pub through : PointerChangesTheBase
  pub inner : InnerUriLeadsThere
  pub cased : CaseOfHosts
  pub path_case : CaseOfPaths
  pub supplied : SuppliedUriIsRead
  pub supplied_found : SuppliedUriIsFound
  pub tree : TreeOfNodes
  pub node : NodeOfATree
  pub early : DraftFourHasId
  pub later : DraftSixHasNone
  pub sibling : SiblingOfAReference
  pub sibling_base : SiblingKeepsTheBase
  pub independent : LocationIndependent
  pub independent_nested : LocationIndependentNested
  pub decoded : NameIsDecoded
  pub decoded_identifier : IdentifierIsDecoded
  pub no_resource : FragmentOpensNoResource
  pub late_fragment : LateFragmentIsNoName
  pub both : FragmentAndUri
  pub anchor : AnchorIsAName
  pub early_anchor : EarlyAnchorIsNone
  pub dynamic : DynamicAnchorIsAName
  pub early_dynamic : EarlyDynamicAnchorIsNone
  pub enumerated : EnumHasNoSchemas
  pub unknown : UnknownHasNoSchemas
  pub pointer : PointersLeadAnywhere
  pub odd_escape : OddEscapeIsNone
  pub escape : EscapeIsOne
  pub lists : ListsOfItems
  pub one_schema : ItemsIsOneSchema
  pub no_if : DraftSixHasNoIf
  pub has_if : DraftSevenHasIf
  pub content : LateHasContentSchema
  pub known : KeywordsAreKnown
